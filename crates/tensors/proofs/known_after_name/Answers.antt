-- `tensors::known_after_name` meets its contract: the lengths stand behind their count, and the
-- kind and the offset behind them. Assumes nothing.
use mathlib.Core.Path.{refl}
use native.Mathlib.Omega.{arith}
use Rattle.tensors.proofs.ReadAgain.{RestThere, rest-there}
use Rattle.tensors.proofs.known_after_name.Goals.{After-value_in-n}
use Rattle.tensors.proofs.known_after_name.Goals as goal

-- all of it stands behind the count that was read
there : (c : After-value_in-n) → let a = c.args in RestThere a.s.now a.at a.big c.value_in-n.result
there c = rest-there _ _ _ c.requires c.value_in-n.ensures

pub value_in-n-requires : goal.value_in-n-requires
value_in-n-requires c = omega (arith, (rest-there _ _ _ c.requires refl).inside)

pub overflow_add-from : goal.overflow_add-from
overflow_add-from c = omega (arith, (there (goal.at.overflow_add-from c).After-value_in-n).inside)

pub overflow_mul-to : goal.overflow_mul-to
overflow_mul-to c = omega (arith, (there (goal.at.overflow_mul-to c).After-value_in-n).few)

pub overflow_add-to : goal.overflow_add-to
overflow_add-to c = omega (arith, (there (goal.at.overflow_add-to c).After-value_in-n).inside)

pub known_shape-requires : goal.known_shape-requires
known_shape-requires c = omega (arith, (there (goal.at.known_shape-requires c).After-value_in-n).inside)

pub value_in-requires : goal.value_in-requires
value_in-requires c = omega (arith, (there (goal.at.value_in-requires c).After-value_in-n).inside)

pub overflow_add-to-2 : goal.overflow_add-to-2
overflow_add-to-2 c = omega (arith, (there (goal.at.overflow_add-to-2 c).After-value_in-n).inside)

pub value_in-requires-2 : goal.value_in-requires-2
value_in-requires-2 c = omega (arith, (there (goal.at.value_in-requires-2 c).After-value_in-n).inside)

pub overflow_add-result : goal.overflow_add-result
overflow_add-result c = omega (arith, (there (goal.at.overflow_add-result c).After-value_in-n).inside)

pub returns : goal.returns
returns c = rw (c.known_shape.ensures, c.value_in.ensures, c.value_in-2.ensures) (there (goal.at.returns c).After-value_in-n).is
