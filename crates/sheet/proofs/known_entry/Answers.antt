-- `sheet::known_entry` meets its contract: each part of an entry that is there stands where the
-- numbers before it say. Assumes nothing.
use mathlib.Core.Path.{refl}
use native.Mathlib.Omega.{arith}
use Rattle.sheet.proofs.PartsFound.{EntryStands, entry-stands}
use Rattle.sheet.proofs.known_entry.Goals.{After-value_in-len}
use Rattle.sheet.proofs.known_entry.Goals as goal

-- behind both lengths that were read
there : (c : After-value_in-len) → let a = c.args in EntryStands a.s.now a.at c.value_in-n.result c.value_in-len.result
there c = entry-stands _ _ c.requires c.value_in-n.ensures c.value_in-len.ensures

pub value_in-n-requires : goal.value_in-n-requires
value_in-n-requires c = omega (arith, (entry-stands _ _ c.requires refl refl).there)

pub overflow_add-at : goal.overflow_add-at
overflow_add-at c = omega (arith, (entry-stands _ _ c.requires refl refl).there)

pub value_in-len-requires : goal.value_in-len-requires
value_in-len-requires c = omega (arith, (entry-stands _ _ c.requires refl refl).there)

pub overflow_add-place : goal.overflow_add-place
overflow_add-place c = omega (arith, (there (goal.at.overflow_add-place c).After-value_in-len).there)

pub overflow_add-to : goal.overflow_add-to
overflow_add-to c = omega (arith, (there (goal.at.overflow_add-to c).After-value_in-len).there)

pub value_in-requires : goal.value_in-requires
value_in-requires c = omega (arith, (there (goal.at.value_in-requires c).After-value_in-len).there)

pub overflow_add-parts : goal.overflow_add-parts
overflow_add-parts c = omega (arith, (there (goal.at.overflow_add-parts c).After-value_in-len).there)

pub overflow_add-result : goal.overflow_add-result
overflow_add-result c = omega (arith, (there (goal.at.overflow_add-result c).After-value_in-len).there)

pub overflow_add-result-2 : goal.overflow_add-result-2
overflow_add-result-2 c = omega (arith, (there (goal.at.overflow_add-result-2 c).After-value_in-len).ends)

pub returns : goal.returns
returns c = rw c.value_in.ensures (there (goal.at.returns c).After-value_in-len).is
