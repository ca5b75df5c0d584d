-- `plan::lay_tensors` meets its contract. The invariant: the tensors that are left, after what is
-- laid, give what all of them do. Assumes nothing.
use mathlib.Core.Path.{◌≡◌, sym, ◌∙◌}
use Rattle.std.proofs.Common.{rules, of_calls}
use Rattle.std.proofs.lemmas.Result.{err_from_is_err_and}
use Rattle.plan.proofs.Mapped.{mapped-ok, mapped-err}
use Rattle.plan.proofs.PlanTurns.{tensor-never, tensor-rest, laid-stops, laid_goes_on, laid-ends}
use Rattle.plan.proofs.lay_tensors.Goals as goal

pub returns-in_default : goal.returns-in_default
returns-in_default c =
    absurd (tensor-never _ _ _ _ c.loop-i-test.true c.loop-i.invariant.0 c.in_default.ensures)

pub returns-in_err-placed : goal.returns-in_err-placed
returns-in_err-placed c =
    let v = c.loop-i in
    let p = err_from_is_err_and c.from_residual.result c.from_residual.ensures.1 in
    let m = mapped-err c.lay.result c.map_err.result _ c.map_err.ensures.cases c.in_err-placed.was in
    let h : c.in_err-placed.field-0.0 ≡ record { why = m.0; place = v.i-counter } = search (rules, of_calls, m.2) in
    rw (p.1, p.2, h) (sym (v.invariant.1 ∙ laid-stops _ _ _ _ c.loop-i-test.true v.invariant.0 c.in-Some.ensures c.args.alignment v.laid (rw m.1 at (sym c.lay.ensures))))

pub loop-i-preserved : goal.loop-i-preserved
loop-i-preserved c =
    let v = c.loop-i in
    let below = c.loop-i-test.true in
    let placed = mapped-ok c.lay.result c.map_err.result _ c.map_err.ensures.cases c.in_ok-placed.was in (
      tensor-rest _ _ _ _ below v.invariant.0 c.in-Some.ensures,
      v.invariant.1 ∙ laid_goes_on _ _ _ _ below v.invariant.0 c.in-Some.ensures c.args.alignment v.laid (rw placed at (sym c.lay.ensures)),
    )

pub returns : goal.returns
returns c =
    let v = c.loop-i in
    sym (v.invariant.1 ∙ laid-ends c.args.alignment v.laid _ _ _ _ c.loop-i-test.false)
