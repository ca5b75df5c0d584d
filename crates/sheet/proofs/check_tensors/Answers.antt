-- `sheet::check_tensors` meets its contract. The invariant: the tensors that are left, with those
-- that were counted, are all; and no more were counted than bytes were passed, so that turns are
-- left where a tensor is. Assumes nothing.
use borrow.Author.Tests.{lt-ltb}
use mathlib.Core.Path.{sym, ◌∙◌}
use native.Mathlib.Omega.{arith}
use lib.ListN.{length}
use Rattle.reading.specs.Reading.{run}
use Rattle.sheet.specs.Format.{tensor}
use Rattle.sheet.specs.Sheet.{goes_on_with}
use Rattle.sheet.proofs.ManyEntries.{many_more}
use Rattle.sheet.proofs.PartsFound.{tensor-ends}
use Rattle.sheet.proofs.BackFromAnswers.{tensor_yes}
use Rattle.sheet.proofs.check_tensors.Goals as goal

pub loop-from-preserved : goal.loop-from-preserved
loop-from-preserved c =
    let l = c.loop-from in
    let s = c.args.s.now in
    let r = tensor_yes (run tensor s l.from) (sym c.in_ok-next.ensures.ok_part ∙ c.tensor_at.ensures) in
    let j = (tensor-ends s l.from r.is).0 in (
      omega arith,
      l.invariant.1 ∙ many_more {S = Unit {0}} goes_on_with (λ z. tensor) (λ z a. z) (length s) s l.from tt l.count (omega arith) (lt-ltb l.from (length s) c.loop-from-test.true) r.is,
    )
