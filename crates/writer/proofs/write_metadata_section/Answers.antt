-- `writer::write_metadata_section` meets its contract: the entries that come before the alignment's
-- own, that one, and the others; or all of them. Assumes nothing.
use borrow.Author.Rules.{rules}
use Prim.Native.Nat.{ℕ, ◌+◌, ◌-◌, ◌≤◌}
use mathlib.Core.Path.{sym, ap, ◌∙◌}
use mathlib.Core.List.{map}
use native.Mathlib.Omega.{arith}
use lib.ListN.{length}
use Rattle.reading.specs.Back.{got, bytes_of_all}
use Rattle.reading.specs.Each.{times}
use Rattle.reading.specs.Reading.{run}
use Rattle.fields.proofs.Chain.{chain}
use Rattle.values.specs.Contents.{entry_bytes}
use Rattle.values.specs.Format.{size_width}
use Rattle.plan.specs.Header.{inserted, entries_with, entry_in}
use Rattle.sheet.specs.Format.{metadata}
use Rattle.writer.proofs.Entries.{written, Apart, apart-mid, apart}
use Rattle.writer.proofs.RowsWritten.{wrote_as}
use Rattle.writer.proofs.write_metadata_section.Goals.{After-entries_before-n, After-write_entries-lower}
use Rattle.writer.proofs.write_metadata_section.Goals as goal

-- where the alignment's own is added there is room for it and for all the others
all_room : (c : After-entries_before-n) →
    let a = c.args in
    length (bytes_of_all (entry_bytes a.dialect) (inserted a.alignment (map entry_in (got (run (times a.draft.entries metadata) a.s.now 1))))) ≤ length a.out.now
all_room c = rw c.if-draft.true at c.requires.s_in_bounds

-- the entries that come before it, and those after them
parted : (c : After-entries_before-n) →
    let a = c.args in
    (q : ℕ) × Apart a.dialect a.alignment a.s.now a.draft.entries c.entries_before-n.result q
parted c =
    let a = c.args in
    apart-mid a.dialect a.alignment a.s.now a.draft.entries c.requires.s_value c.entries_before-n.result c.entries_before-n.ensures

lower-room : (c : After-entries_before-n) →
    let a = c.args in
    length (written a.dialect (run (times c.entries_before-n.result metadata) a.s.now 1)) ≤ length a.out.now
lower-room c = omega (arith, all_room c, (parted c).1.size)

-- the others stand from the place on that the first call answers
others : (c : After-write_entries-lower) →
    let a = c.args in
    Apart a.dialect a.alignment a.s.now a.draft.entries c.entries_before-n.result c.write_entries-lower.result.next
others c =
    let a = c.args in
    let e = c.entries_before-n in
    apart a.dialect a.alignment a.s.now a.draft.entries c.requires.s_value e.result e.ensures c.write_entries-lower.result.next c.write_entries-lower.ensures.next_value

room : (c : After-write_entries-lower) →
    let a = c.args in
    c.write_entries-lower.result.written + (size_width a.dialect + 25) + length (written a.dialect (run (times (a.draft.entries - c.entries_before-n.result) metadata) a.s.now c.write_entries-lower.result.next)) ≤ length a.out.now
room c =
    let all_room_here : (let a = c.args in length (bytes_of_all (entry_bytes a.dialect) (inserted a.alignment (map entry_in (got (run (times a.draft.entries metadata) a.s.now 1))))) ≤ length a.out.now) = rw c.if-draft.true at c.requires.s_in_bounds in
    omega (arith, all_room_here, (others c).size, c.write_entries-lower.ensures.wrote.count)

pub write_entries-lower-requires-clause-at_value : goal.write_entries-lower-requires-clause-at_value
write_entries-lower-requires-clause-at_value c = (parted (goal.at.write_entries-lower-requires-clause-at_value c).After-entries_before-n).1.lower

pub write_entries-lower-requires-clause-at_in_bounds : goal.write_entries-lower-requires-clause-at_in_bounds
write_entries-lower-requires-clause-at_in_bounds c = lower-room (goal.at.write_entries-lower-requires-clause-at_in_bounds c).After-entries_before-n

pub write_alignment-requires : goal.write_alignment-requires
write_alignment-requires c = let h = room (goal.at.write_alignment-requires c).After-write_entries-lower in search rules

pub overflow_sub-draft : goal.overflow_sub-draft
overflow_sub-draft c = (others (goal.at.overflow_sub-draft c).After-write_entries-lower).within

pub write_entries-upper-requires-clause-at_value : goal.write_entries-upper-requires-clause-at_value
write_entries-upper-requires-clause-at_value c =
    let h = room (goal.at.write_entries-upper-requires-clause-at_value c).After-write_entries-lower in
    (others (goal.at.write_entries-upper-requires-clause-at_value c).After-write_entries-lower).upper

pub write_entries-upper-requires-clause-at_in_bounds : goal.write_entries-upper-requires-clause-at_in_bounds
write_entries-upper-requires-clause-at_in_bounds c =
    let h = room (goal.at.write_entries-upper-requires-clause-at_in_bounds c).After-write_entries-lower in
    search rules

pub returns-then-draft : goal.returns-then-draft
returns-then-draft c =
    let a = c.args in
    wrote_as
    ((others (goal.at.returns-then-draft c).After-write_entries-lower).bytes ∙ ap (λ b. bytes_of_all (entry_bytes a.dialect) (entries_with b a.alignment (got (run (times a.draft.entries metadata) a.s.now 1)))) (sym c.if-draft.true))
    (chain (chain c.write_entries-lower.ensures.wrote c.write_alignment.ensures.wrote) c.write_entries-upper.ensures.wrote)
