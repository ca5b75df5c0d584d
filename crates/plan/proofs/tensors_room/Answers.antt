-- `plan::tensors_room` meets its contract. The invariant: what is left, without the tensors that
-- are left, is what all of them leave. Assumes nothing.
use mathlib.Core.Path.{sym, ap, ◌∙◌}
use Rattle.plan.specs.Steps.{taken_from}
use Rattle.plan.proofs.PlanTurns.{tensors-told, tensor-never, tensor-rest, tensor-few, tensor_taken, tensors-ends}
use Rattle.plan.proofs.tensors_room.Goals as goal

pub returns-in_default : goal.returns-in_default
returns-in_default c =
    absurd (tensor-never _ _ _ _ c.loop-test.true c.loop.invariant.0 c.in_default.ensures)

pub tensor_room-left-requires : goal.tensor_room-left-requires
tensor_room-left-requires c =
    tensor-few _ _ _ _ c.loop-test.true c.loop.invariant.0 c.in-Some.ensures

pub loop-preserved : goal.loop-preserved
loop-preserved c =
    let v = c.loop in
    let a = c.args in
    let below = c.loop-test.true in (
      tensor-rest _ _ _ _ below v.invariant.0 c.in-Some.ensures,
      rw c.tensor_room-left.ensures (v.invariant.1 ∙ tensor_taken _ _ _ _ below v.invariant.0 c.in-Some.ensures a.dialect v.left),
    )

pub returns : goal.returns
returns c =
    let v = c.loop in
    let t = c.args in
    λ a laid. sym (ap (taken_from t.room) (tensors-told t.dialect a laid t.s.now t.first t.m) ∙ v.invariant.1 ∙ tensors-ends t.dialect v.left _ _ _ _ c.loop-test.false)
