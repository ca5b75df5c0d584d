-- `fetch_listing::put_replay` meets its contract: a refusal's line, or those of the rows with the
-- answers that are in the table. Assumes nothing.
use Prim.Native.Nat.{ℕ}
use native.Mathlib.Omega.{arith}
use native.Mathlib.Nat.{sub-zero}
use lib.ListN.{length-take}
use Rattle.text_out.proofs.Put.{put_same}
use Rattle.fetch_listing.proofs.Replays.{rows_fit, lines-replayed, refusal-replayed}
use Rattle.fetch_listing.proofs.put_replay.Goals as goal

pub slice_bounds-put_all-end : goal.slice_bounds-put_all-end
slice_bounds-put_all-end c =
    let a = c.args in
    omega (arith, rows_fit a.s.now a.tensors.now a.answers.now a.trace.now a.start a.file c.in-Ok.ensures.value, c.replay_fetches)

pub slice_bounds-put_all-end-in-Ok : goal.slice_bounds-put_all-end-in-Ok
slice_bounds-put_all-end-in-Ok c =
    let a = c.args in
    omega (arith, rows_fit a.s.now a.tensors.now a.answers.now a.trace.now a.start a.file c.in-Ok.ensures.value, c.replay_fetches, length-take {A = ℕ})

pub put_all-requires : goal.put_all-requires
put_all-requires c =
    let a = c.args in
    omega (arith, rows_fit a.s.now a.tensors.now a.answers.now a.trace.now a.start a.file c.in-Ok.ensures.value, c.replay_fetches, length-take {A = ℕ})

pub returns-in-Err-clause-put : goal.returns-in-Err-clause-put
returns-in-Err-clause-put c =
    let a = c.args in
    put_same (refusal-replayed a.s.now a.tensors.now a.answers.now a.trace.now a.start a.file c.in-Err.ensures.value) (rw c.number.ensures at c.put_refusal.ensures)

pub returns-in-Ok-clause-put : goal.returns-in-Ok-clause-put
returns-in-Ok-clause-put c =
    let a = c.args in
    let said = lines-replayed a.s.now a.tensors.now a.answers.now a.trace.now a.start a.file c.in-Ok.ensures.value c.replay_fetches.ensures.answers_after in
    put_same (simp sub-zero at said) c.put_all.ensures
