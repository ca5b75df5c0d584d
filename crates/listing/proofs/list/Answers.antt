-- `listing::list` meets its contract: the answer and both tables are of one run; the rows up to the
-- counts are the records that were read, and a refusal has its one line. Assumes nothing.
use Prim.Native.Nat.{ℕ}
use mathlib.Core.List.{List}
use native.Mathlib.Omega.{arith}
use native.Mathlib.Nat.{sub-zero}
use lib.ListN.{length-take}
use Rattle.listing.proofs.RowsListed.{entries-inside, tensors-inside, lines-listed, refusal-listed}
use Rattle.text_out.proofs.Put.{put_same}
use Rattle.listing.proofs.list.Goals as goal

pub slice_bounds-put_all-end : goal.slice_bounds-put_all-end
slice_bounds-put_all-end c =
    let a = c.args in
    omega (arith, entries-inside a.s.now a.entries.now a.tensors.now c.in-Ok.ensures.answer, c.read)

pub slice_bounds-put_all-end-in-Ok : goal.slice_bounds-put_all-end-in-Ok
slice_bounds-put_all-end-in-Ok c =
    let a = c.args in
    omega (arith, entries-inside a.s.now a.entries.now a.tensors.now c.in-Ok.ensures.answer, c.read, length-take {A = List ℕ})

pub slice_bounds-put_all-end-in-Ok-2 : goal.slice_bounds-put_all-end-in-Ok-2
slice_bounds-put_all-end-in-Ok-2 c =
    let a = c.args in
    omega (arith, tensors-inside a.s.now a.entries.now a.tensors.now c.in-Ok.ensures.answer, c.read)

pub slice_bounds-put_all-end-in-Ok-3 : goal.slice_bounds-put_all-end-in-Ok-3
slice_bounds-put_all-end-in-Ok-3 c =
    let a = c.args in
    omega (arith, tensors-inside a.s.now a.entries.now a.tensors.now c.in-Ok.ensures.answer, c.read, length-take {A = List ℕ})

pub returns-in-Err-clause-put : goal.returns-in-Err-clause-put
returns-in-Err-clause-put c =
    let a = c.args in
    put_same (refusal-listed a.s.now a.entries.now a.tensors.now c.in-Err.ensures.answer) (rw c.number.ensures at c.put_refusal.ensures)

pub returns-in-Ok-clause-put : goal.returns-in-Ok-clause-put
returns-in-Ok-clause-put c =
    let a = c.args in
    put_same (simp sub-zero at (lines-listed a.s.now a.entries.now a.tensors.now c.in-Ok.ensures.answer c.read.ensures.entry_rows c.read.ensures.tensor_rows)) c.put_all.ensures
