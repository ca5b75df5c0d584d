-- `fetch_listing::list_fetches` meets its contract: the answer and both tables are of one run of
-- the reader; the rows up to the count are those of its tensors. Assumes nothing.
use Prim.Native.Nat.{ℕ}
use mathlib.Core.List.{List}
use mathlib.Core.Path.{ap, ◌∙◌}
use native.Mathlib.Omega.{arith}
use native.Mathlib.Nat.{sub-zero}
use lib.ListN.{length, length-take}
use Rattle.reading.specs.Back.{same}
use Rattle.reading.specs.Each.{filled}
use Rattle.listing.proofs.RowsListed.{tensors-inside}
use Rattle.text_out.proofs.Put.{put_same}
use Rattle.fetch_listing.proofs.Replays.{comes, not-read}
use Rattle.fetch_listing.proofs.list_fetches.Goals as goal

pub slice_bounds-put_replay-end : goal.slice_bounds-put_replay-end
slice_bounds-put_replay-end c =
    let a = c.args in
    omega (arith, tensors-inside a.s.now a.entries.now a.tensors.now c.in-Ok.ensures.answer, c.read)

pub slice_bounds-put_replay-end-in-Ok : goal.slice_bounds-put_replay-end-in-Ok
slice_bounds-put_replay-end-in-Ok c =
    let a = c.args in
    omega (arith, tensors-inside a.s.now a.entries.now a.tensors.now c.in-Ok.ensures.answer, c.read, length-take {A = List ℕ})

pub returns-in-Err-clause-put : goal.returns-in-Err-clause-put
returns-in-Err-clause-put c =
    let a = c.args in
    put_same (not-read a.s.now a.entries.now a.tensors.now a.file a.trace.now (length a.answers.now) c.in-Err.ensures.answer).0 (rw c.number.ensures at c.put_refusal.ensures)

pub returns-in-Err-clause-answers_after : goal.returns-in-Err-clause-answers_after
returns-in-Err-clause-answers_after c =
    let a = c.args in
    ap (filled same a.answers.now) (not-read a.s.now a.entries.now a.tensors.now a.file a.trace.now (length a.answers.now) c.in-Err.ensures.answer).1

pub returns-in-Ok-clause-put : goal.returns-in-Ok-clause-put
returns-in-Ok-clause-put c =
    let a = c.args in
    let said = simp sub-zero at (comes a.s.now a.entries.now a.tensors.now a.file a.trace.now (length a.answers.now) c.in-Ok.ensures.answer c.read.ensures.tensor_rows) in
    put_same said.0 c.put_replay.ensures.put

pub returns-in-Ok-clause-answers_after : goal.returns-in-Ok-clause-answers_after
returns-in-Ok-clause-answers_after c =
    let a = c.args in
    let said = simp sub-zero at (comes a.s.now a.entries.now a.tensors.now a.file a.trace.now (length a.answers.now) c.in-Ok.ensures.answer c.read.ensures.tensor_rows) in
    c.put_replay.ensures.answers_after ∙ ap (filled same a.answers.now) said.1
