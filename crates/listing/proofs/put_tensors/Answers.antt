-- `listing::put_tensors` meets its contract. The invariant: what is put, with the lines of the rows
-- that are left, is the whole text. Assumes nothing.
use native.Mathlib.Omega.{arith}
use Rattle.listing.specs.Text.{tensor_line}
use Rattle.text_out.proofs.Writing.{writing_turns, writing_ends, rows-turn, rows_end}
use Rattle.listing.proofs.put_tensors.Goals as goal

pub loop-row-preserved : goal.loop-row-preserved
loop-row-preserved c =
    writing_turns c.loop-row.invariant (rows-turn _ _ _ c.loop-row-test.true) c.put_tensor-n.ensures

pub returns : goal.returns
returns c =
    let l = c.loop-row in
    let a = c.args in
    writing_ends l.invariant (rows_end (tensor_line a.s.now) a.tensors.now l.row-index (omega arith))
