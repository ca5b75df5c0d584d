-- `fetch_listing::put_lines` meets its contract. The invariant: what is put, with the lines of the
-- rows that are left, is the whole text. Assumes nothing.
use Prim.Native.Nat.{◌+◌}
use mathlib.Core.Path.{◌≡◌}
use mathlib.Core.List.{[], ◌∷◌, ◌++◌}
use Rattle.std.proofs.Common.{rules}
use native.Mathlib.Omega.{arith}
use lib.ListN.{length, drop, length-append}
use Rattle.std.proofs.lemmas.Slice.Zip.{zip_turn, zip_end}
use Rattle.text_out.proofs.Writing.{writing_turns, writing_ends}
use Rattle.fetch_listing.specs.Text.{record_line, record_lines}
use Rattle.fetch_listing.proofs.Lines.{lines-turn, lines_end}
use Rattle.fetch_listing.proofs.put_lines.Goals as goal

pub loop-row-preserved : goal.loop-row-preserved
loop-row-preserved c =
    let s = c.args.s.now in
    let rows = c.args.tensors.now in
    let answers = c.args.answers.now in
    let l = c.loop-row in
    let i = length l.yielded in
    let t = zip_turn rows answers l.yielded c.into_iter-row-iterator.result l.row-iterator c.next.new.self c.next.result (search rules) (search rules) l.yielded_by _ c.in-Some.is c.next.ensures.steps in
    let line : record_lines s (drop i rows) (drop i answers) ≡ record_line s c.in-Some.row.now c.in-Some.number.now ++ record_lines s (drop (i + 1) rows) (drop (i + 1) answers) =
    rw (t.2 [], t.3 0) (lines-turn s rows answers i t.0) in
    rw (length-append l.yielded ((c.in-Some.row, c.in-Some.number) ∷ [])) (writing_turns l.invariant line c.put_line-n.ensures)

pub returns : goal.returns
returns c =
    let rows = c.args.tensors.now in
    let answers = c.args.answers.now in
    let l = c.loop-row in
    let e = zip_end rows answers l.yielded c.into_iter-row-iterator.result l.row-iterator c.next.new.self c.next.result (search rules) (search rules) l.yielded_by c.in-None.is c.next.ensures.steps in
    writing_ends l.invariant (lines_end c.args.s.now rows answers (length l.yielded) (omega arith))
