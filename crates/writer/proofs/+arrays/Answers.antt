-- The proof of the cycle of calls {write_array_payload, write_arrays}, which lend each other the rest
-- of the output. Assumes nothing.
use borrow.Author.Rules.{rules}
use Prim.Native.Nat.{suc, ◌+◌, ◌-◌, ◌≤◌}
use mathlib.Core.Path.{sym, ap, subst, ◌∙◌}
use native.Mathlib.Omega.{arith}
use lib.ListN.{length, length-take, length-drop}
use Rattle.reading.specs.Back.{got, bytes_of_all}
use Rattle.reading.specs.Each.{times}
use Rattle.reading.specs.Reading.{run, is_accepted}
use Rattle.fields.proofs.Chain.{chain}
use Rattle.values.specs.Contents.{value_bytes}
use Rattle.values.specs.Format.{size_width}
use Rattle.sheet.specs.Format.{array, item}
use Rattle.sheet.proofs.BackFromAnswers.{step_yes}
use Rattle.sheet.proofs.SheetArrays.{array_deep}
use Rattle.plan.specs.Steps.{content_read}
use Rattle.plan.proofs.ArraysSaid.{of_items, of_arrays, of_plain}
use Rattle.writer.proofs.RowsWritten.{wrote_as, Next, left-next, left-turn, left_end}
use Rattle.writer.proofs.+arrays.Goals as goal

-- An array.
pub write_array_payload-write_type-a-requires : goal.write_array_payload-write_type-a-requires
write_array_payload-write_type-a-requires t c =
    let a = c.args in
    let h = of_items a.depth a.s.now a.at c.requires.at_value c.in-Ok.ensures a.dialect c.in-Ok-number_at.ensures in
    let room : 4 + size_width a.dialect ≤ length a.out.now = omega (arith, h.size, c.requires.at_in_bounds) in
    omega arith

pub write_array_payload-write_size-requires : goal.write_array_payload-write_size-requires
write_array_payload-write_size-requires t c =
    let a = c.args in
    let h = of_items a.depth a.s.now a.at c.requires.at_value c.in-Ok.ensures a.dialect c.in-Ok-number_at.ensures in
    let room : 4 + size_width a.dialect ≤ length a.out.now = omega (arith, h.size, c.requires.at_in_bounds) in
    search rules

pub write_array_payload-write_arrays-arrays-requires : goal.write_array_payload-write_arrays-arrays-requires
write_array_payload-write_arrays-arrays-requires t c =
    let a = c.args in
    let nested = of_arrays a.depth a.s.now a.at c.requires.at_value c.in-Ok.ensures a.dialect c.in-Ok-number_at.ensures c.if-t-eq9.true in
    let deep = array_deep a.s.now a.at a.depth c.requires.at_value in
    let room : 4 + size_width a.dialect + length (bytes_of_all (value_bytes (suc (a.depth - 1)) a.dialect) (got (run (times c.in-Ok-number_at.n (array (a.depth - 1) (item (a.depth - 1)))) a.s.now c.in-Ok-number_at.q))) ≤ length a.out.now =
    rw nested.size at c.requires.at_in_bounds
    in
    (omega (arith, deep), (nested.there, search rules))

pub write_array_payload-returns-then-t-eq9-clause-wrote : goal.write_array_payload-returns-then-t-eq9-clause-wrote
write_array_payload-returns-then-t-eq9-clause-wrote t c =
    let a = c.args in
    let nested = of_arrays a.depth a.s.now a.at c.requires.at_value c.in-Ok.ensures a.dialect c.in-Ok-number_at.ensures c.if-t-eq9.true in
    wrote_as nested.bytes (chain (chain c.write_type-a.ensures.wrote c.write_size.ensures.wrote) c.write_arrays-arrays.ensures.wrote)

pub write_array_payload-returns-then-t-eq9-clause-next_value : goal.write_array_payload-returns-then-t-eq9-clause-next_value
write_array_payload-returns-then-t-eq9-clause-next_value t c =
    let a = c.args in
    let nested = of_arrays a.depth a.s.now a.at c.requires.at_value c.in-Ok.ensures a.dialect c.in-Ok-number_at.ensures c.if-t-eq9.true in
    c.write_arrays-arrays.ensures.next_value ∙ nested.ends

pub write_array_payload-write_items-items-requires-clause-at_value : goal.write_array_payload-write_items-items-requires-clause-at_value
write_array_payload-write_items-items-requires-clause-at_value t c =
    let a = c.args in
    (of_plain a.depth a.s.now a.at c.requires.at_value c.in-Ok.ensures a.dialect c.in-Ok-number_at.ensures c.if-t-eq9.false).there

pub write_array_payload-write_items-items-requires-clause-at_in_bounds : goal.write_array_payload-write_items-items-requires-clause-at_in_bounds
write_array_payload-write_items-items-requires-clause-at_in_bounds t c =
    let a = c.args in
    let plain = of_plain a.depth a.s.now a.at c.requires.at_value c.in-Ok.ensures a.dialect c.in-Ok-number_at.ensures c.if-t-eq9.false in
    let room : 4 + size_width a.dialect + length (bytes_of_all (value_bytes 1 a.dialect) (got (run (times c.in-Ok-number_at.n (item 1 c.in-Ok.t)) a.s.now c.in-Ok-number_at.q))) ≤ length a.out.now =
    rw plain.size at c.requires.at_in_bounds
    in
    search rules

pub write_array_payload-returns-clause-wrote : goal.write_array_payload-returns-clause-wrote
write_array_payload-returns-clause-wrote t c =
    let a = c.args in
    let plain = of_plain a.depth a.s.now a.at c.requires.at_value c.in-Ok.ensures a.dialect c.in-Ok-number_at.ensures c.if-t-eq9.false in
    wrote_as plain.bytes (chain (chain c.write_type-a.ensures.wrote c.write_size.ensures.wrote) c.write_items-items.ensures.wrote)

pub write_array_payload-returns-clause-next_value : goal.write_array_payload-returns-clause-next_value
write_array_payload-returns-clause-next_value t c =
    let a = c.args in
    let plain = of_plain a.depth a.s.now a.at c.requires.at_value c.in-Ok.ensures a.dialect c.in-Ok-number_at.ensures c.if-t-eq9.false in
    c.write_items-items.ensures.next_value ∙ plain.ends

-- Arrays. The one that comes next, and that there is room for it
pub write_arrays-write_array_payload-copied-requires : goal.write_arrays-write_array_payload-copied-requires
write_arrays-write_array_payload-copied-requires t c =
    let a = c.args in
    let l = c.loop in
    let next : Next (array a.depth (item a.depth)) (value_bytes (suc a.depth) a.dialect) a.s.now l.from l.done l.out = left-next _ _ _ _ _ l.invariant c.loop-test.true c.requires.at_in_bounds in
    let room = subst (λ r. l.done + length (value_bytes (suc a.depth) a.dialect (content_read r)) ≤ length l.out) next.is next.room in
    (omega arith, (ap is_accepted (sym next.is), simp (length-take, length-drop) (omega (arith, room))))

pub write_arrays-loop-preserved : goal.write_arrays-loop-preserved
write_arrays-loop-preserved t c =
    let a = c.args in
    let l = c.loop in
    let y = step_yes (run (array a.depth (item a.depth)) a.s.now l.from) c.write_array_payload-copied.ensures.next_value in
    left-turn _ _ _ _ _ l.invariant c.loop-test.true y.is (ap (λ r. value_bytes (suc a.depth) a.dialect (content_read r)) (sym y.is)) c.write_array_payload-copied.ensures.wrote c.write_array_payload-copied.auto.out

pub write_arrays-returns-clause-wrote : goal.write_arrays-returns-clause-wrote
write_arrays-returns-clause-wrote t c =
    (left_end _ _ _ _ _ c.loop.invariant c.loop-test.false).0

pub write_arrays-returns-clause-next_value : goal.write_arrays-returns-clause-next_value
write_arrays-returns-clause-next_value t c =
    (left_end _ _ _ _ _ c.loop.invariant c.loop-test.false).1
