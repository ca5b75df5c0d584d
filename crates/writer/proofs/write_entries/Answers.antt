-- `writer::write_entries` meets its contract. The invariant: what is written, and the entries that
-- are left, are all the entries. Assumes nothing.
use Prim.Native.Nat.{◌+◌, ◌≤◌}
use mathlib.Core.Path.{sym, ap, subst, ◌∙◌}
use native.Mathlib.Omega.{arith}
use lib.ListN.{length, length-take, length-drop}
use Rattle.reading.specs.Back.{got, bytes_of_all}
use Rattle.reading.specs.Each.{times}
use Rattle.reading.specs.Reading.{run}
use Rattle.values.specs.Contents.{entry_bytes}
use Rattle.plan.specs.Header.{entry_in}
use Rattle.sheet.specs.Format.{metadata}
use Rattle.sheet.proofs.BackFromAnswers.{next-there}
use Rattle.plan.proofs.PartLengths.{entry-size}
use Rattle.writer.proofs.Entries.{EntryThere, entry-there}
use Rattle.reading.proofs.Repetition.{rows-map}
use Rattle.writer.proofs.RowsWritten.{wrote_as, left-room, left-turn, left_end}
use Rattle.writer.proofs.write_entries.Goals.{After-known_entry-next}
use Rattle.writer.proofs.write_entries.Goals as goal

-- the entry that was read again
entry : (c : After-known_entry-next) →
    EntryThere c.args.s.now c.loop.from c.known_entry-next.result.0 c.known_entry-next.result.1
entry c = entry-there _ _ c.known_entry-next.ensures

-- there is room for all the entries, and so for this one
all_room : (c : After-known_entry-next) →
    let a = c.args in
    length (bytes_of_all (λ e. entry_bytes a.dialect (entry_in e)) (got (run (times a.n metadata) a.s.now a.at))) ≤ length a.out.now
all_room c =
    let a = c.args in
    subst (λ l. length l ≤ length a.out.now) (rows-map (entry_bytes a.dialect) entry_in (got (run (times a.n metadata) a.s.now a.at))) c.requires.at_in_bounds

room : (c : After-known_entry-next) →
    let l = c.loop in
    let a = c.args in
    l.done + length (entry_bytes a.dialect (entry c).what.content) ≤ length l.out
room c = left-room _ _ _ _ _ c.loop.invariant c.loop-test.true (entry c).is (all_room c)

pub known_entry-next-requires : goal.known_entry-next-requires
known_entry-next-requires c = next-there metadata _ _ _ _ c.loop-test.true c.loop.invariant.all

pub write_entry-done-requires-clause-end_value : goal.write_entry-done-requires-clause-end_value
write_entry-done-requires-clause-end_value c =
    (entry (goal.at.write_entry-done-requires-clause-end_value c).After-known_entry-next).ends

pub write_entry-done-requires-clause-at_in_bounds : goal.write_entry-done-requires-clause-at_in_bounds
write_entry-done-requires-clause-at_in_bounds c =
    let x = entry (goal.at.write_entry-done-requires-clause-at_in_bounds c).After-known_entry-next in
    let a = c.args in
    let e = sym (entry-size a.dialect _ _ _) ∙ ap length (x.bytes a.dialect c.inside.ensures) in
    simp (length-take, length-drop) (omega (arith, room (goal.at.write_entry-done-requires-clause-at_in_bounds c).After-known_entry-next, e))

pub loop-preserved : goal.loop-preserved
loop-preserved c =
    let a = c.args in
    let x = entry (goal.at.loop-preserved c).After-known_entry-next in
    left-turn _ _ _ _ _ c.loop.invariant c.loop-test.true x.is (x.bytes a.dialect c.inside.ensures)
    c.write_entry-done.ensures c.write_entry-done.auto.out

pub returns-clause-wrote : goal.returns-clause-wrote
returns-clause-wrote c =
    let a = c.args in
    let r = left_end _ _ _ _ _ c.loop.invariant c.loop-test.false in
    wrote_as (sym (rows-map (entry_bytes a.dialect) entry_in (got (run (times a.n metadata) a.s.now a.at)))) r.0

pub returns-clause-next_value : goal.returns-clause-next_value
returns-clause-next_value c =
    let a = c.args in
    let r = left_end _ _ _ _ _ c.loop.invariant c.loop-test.false in
    r.1
