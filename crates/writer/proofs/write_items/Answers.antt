-- `writer::write_items` meets its contract. The invariant: what is written, and the items that are
-- left, are all the items. Assumes nothing.
use Prim.Native.Nat.{◌+◌, ◌≤◌}
use mathlib.Core.Path.{sym, ap, subst}
use native.Mathlib.Omega.{arith}
use lib.ListN.{length, length-take, length-drop}
use Rattle.reading.specs.Reading.{run, is_accepted}
use Rattle.values.specs.Contents.{value_bytes}
use Rattle.sheet.specs.Format.{item}
use Rattle.sheet.proofs.BackFromAnswers.{step_yes}
use Rattle.writer.proofs.RowsWritten.{Next, left-next, left-turn, left_end}
use Rattle.plan.specs.Steps.{content_read}
use Rattle.writer.proofs.write_items.Goals.{In-loop}
use Rattle.writer.proofs.write_items.Goals as goal

-- the item that comes next, and that there is room for it
next : (c : In-loop) →
    let l = c.loop in
    let a = c.args in
    Next (item 1 a.t) (value_bytes 1 a.dialect) a.s.now l.from l.done l.out
next c = left-next _ _ _ _ _ c.loop.invariant c.loop-test.true c.requires.at_in_bounds

room : (c : In-loop) →
    let l = c.loop in
    let a = c.args in
    l.done + length (value_bytes 1 a.dialect (content_read (run (item 1 a.t) a.s.now l.from))) ≤ length l.out
room c =
    let l = c.loop in
    let a = c.args in
    subst (λ r. l.done + length (value_bytes 1 a.dialect (content_read r)) ≤ length l.out) (next c).is (next c).room

pub write_item-copied-requires-clause-at_value : goal.write_item-copied-requires-clause-at_value
write_item-copied-requires-clause-at_value c = ap is_accepted (sym (next (goal.at.write_item-copied-requires-clause-at_value c).In-loop).is)

pub write_item-copied-requires-clause-at_in_bounds : goal.write_item-copied-requires-clause-at_in_bounds
write_item-copied-requires-clause-at_in_bounds c = simp (length-take, length-drop) (omega (arith, room (goal.at.write_item-copied-requires-clause-at_in_bounds c).In-loop))

pub loop-preserved : goal.loop-preserved
loop-preserved c =
    let l = c.loop in
    let a = c.args in
    let y = step_yes (run (item 1 a.t) a.s.now l.from) c.write_item-copied.ensures.next_value in
    left-turn _ _ _ _ _ l.invariant c.loop-test.true y.is (ap (λ r. value_bytes 1 a.dialect (content_read r)) (sym y.is)) c.write_item-copied.ensures.wrote c.write_item-copied.auto.out

pub returns-clause-wrote : goal.returns-clause-wrote
returns-clause-wrote c = (left_end _ _ _ _ _ c.loop.invariant c.loop-test.false).0

pub returns-clause-next_value : goal.returns-clause-next_value
returns-clause-next_value c = (left_end _ _ _ _ _ c.loop.invariant c.loop-test.false).1
