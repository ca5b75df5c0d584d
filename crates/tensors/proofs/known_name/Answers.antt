-- `tensors::known_name` meets its contract: the name stands behind its size, whose width the
-- version decides. Assumes nothing.
use borrow.Author.Tests.{eq-eqb, ne_eqb}
use native.Mathlib.Omega.{arith}
use Rattle.tensors.specs.Steps.{in_order_of}
use Rattle.tensors.proofs.ReadAgain.{NameThere, name-there}
use Rattle.tensors.proofs.known_name.Goals.{Else-version-eq1, Then-version-eq1}
use Rattle.tensors.proofs.known_name.Goals as goal

-- a size of 4 bytes, and one of 8
four : (c : Then-version-eq1) → let a = c.args in NameThere (in_order_of a.version a.big) a.s.now a.at 4
four c = name-there _ _ _ c.requires (rw (eq-eqb _ _ c.if-version-eq1.true))

eight : (c : Else-version-eq1) → let a = c.args in NameThere (in_order_of a.version a.big) a.s.now a.at 8
eight c = name-there _ _ _ c.requires (rw (ne_eqb _ _ c.if-version-eq1.false))

pub overflow_add-result : goal.overflow_add-result
overflow_add-result c = omega (arith, (four (goal.at.overflow_add-result c).Then-version-eq1).inside)

pub value_in-requires : goal.value_in-requires
value_in-requires c = (four (goal.at.value_in-requires c).Then-version-eq1).inside

pub overflow_add-result-else-version-eq1 : goal.overflow_add-result-else-version-eq1
overflow_add-result-else-version-eq1 c = omega (arith, (eight (goal.at.overflow_add-result-else-version-eq1 c).Else-version-eq1).inside)

pub value_in-requires-else-version-eq1 : goal.value_in-requires-else-version-eq1
value_in-requires-else-version-eq1 c = (eight (goal.at.value_in-requires-else-version-eq1 c).Else-version-eq1).inside

pub returns-then-version-eq1 : goal.returns-then-version-eq1
returns-then-version-eq1 c = rw c.value_in.ensures (four (goal.at.returns-then-version-eq1 c).Then-version-eq1).is

pub returns-else-version-eq1 : goal.returns-else-version-eq1
returns-else-version-eq1 c = rw c.value_in-else-version-eq1.ensures (eight (goal.at.returns-else-version-eq1 c).Else-version-eq1).is
