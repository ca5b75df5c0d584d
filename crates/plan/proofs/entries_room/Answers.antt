-- `plan::entries_room` meets its contract. The invariant: what is left, without the entries that
-- are left, is what all of them leave. Assumes nothing.
use mathlib.Core.Path.{sym, ap, ◌∙◌}
use Rattle.plan.proofs.PlanTurns.{entry_here, entry-rest, entry_value, entry_taken, entries-ends}
use Rattle.sheet.specs.Steps.{step_of}
use Rattle.plan.proofs.entries_room.Goals as goal

pub known_entry-next-requires : goal.known_entry-next-requires
known_entry-next-requires c = entry_here _ _ _ _ c.loop-test.true c.loop.invariant.0

pub entry_room-left-requires : goal.entry_room-left-requires
entry_room-left-requires c = ap step_of (entry_value _ _ _ _ c.loop-test.true c.loop.invariant.0 c.known_entry-next.ensures)

pub loop-preserved : goal.loop-preserved
loop-preserved c =
    let v = c.loop in
    let a = c.args in
    let below = c.loop-test.true in
    let found = c.known_entry-next.ensures in (
      entry-rest _ _ _ _ below v.invariant.0 found,
      rw c.entry_room-left.ensures (v.invariant.1 ∙ entry_taken _ _ _ _ below v.invariant.0 found a.dialect v.left),
    )

pub returns : goal.returns
returns c =
    let v = c.loop in
    sym (v.invariant.1 ∙ entries-ends c.args.dialect v.left _ _ _ _ c.loop-test.false)
