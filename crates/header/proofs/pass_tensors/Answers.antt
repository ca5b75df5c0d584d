-- `header::pass_tensors` meets its contract. The invariant: from here, with this total and with what
-- is noted so far, the tensors that are left give what all of them do. Assumes nothing.
use Rattle.std.proofs.Common.{rules, Err}
use mathlib.Core.Path.{◌≡◌, sym, ap, ◌∙◌}
use native.Mathlib.Omega.{arith}
use Rattle.reading.specs.Reading.{seen}
use Rattle.reading.specs.Each.{fold}
use Rattle.reading.specs.Ceilings.{under}
use Rattle.reading.proofs.Repetition.{each-ends, each-stops, each_seen}
use Rattle.reading.proofs.SureLaws.{sure_under}
use Rattle.tensors.specs.Format.{tensor, total_of}
use Rattle.tensors.proofs.ReadAgain.{offset-last}
use Rattle.tensors.proofs.Totals.{total-fits}
use Rattle.header.specs.Steps.{noted}
use Rattle.header.proofs.pass_tensors.Goals as goal

pub returns-in_err-tensor : goal.returns-in_err-tensor
unfolding seen
returns-in_err-tensor c =
    let a = c.args in
    let v = c.loop in
    let up : c.from_residual.result ≡ Err c.in_err-tensor.field-0.0 = search rules in
    rw up (sym (v.invariant ∙ ap (seen (fold (noted a.alignment) v.misaligned)) (each-stops (λ z. under a.limits (tensor a.dialect z)) total_of _ _ _ _ v.total c.loop-test.true c.in_err-tensor.ensures)))

pub note_offset-requires-clause-next_value : goal.note_offset-requires-clause-next_value
note_offset-requires-clause-next_value c =
    let a = c.args in
    let v = c.loop in
    (sure_under a.limits (offset-last a.dialect a.s.now v.total v.from)).holds _ _ c.in_ok-tensor.ensures

pub overflow_add-total : goal.overflow_add-total
overflow_add-total c = record { fits = omega (arith, total-fits _ _ _ _ _ c.in_ok-tensor.ensures) }

pub loop-preserved : goal.loop-preserved
loop-preserved c =
    let a = c.args in
    let v = c.loop in
    rw c.note_offset.ensures
    (v.invariant ∙ each_seen (λ z. under a.limits (tensor a.dialect z)) total_of _ _ _ _ v.total c.loop-test.true c.in_ok-tensor.ensures (noted a.alignment) v.misaligned)

pub returns : goal.returns
unfolding seen
returns c =
    let a = c.args in
    let v = c.loop in
    sym (v.invariant ∙ ap (seen (fold (noted a.alignment) v.misaligned)) (each-ends (λ z. under a.limits (tensor a.dialect z)) total_of _ _ _ _ v.total c.loop-test.false))
