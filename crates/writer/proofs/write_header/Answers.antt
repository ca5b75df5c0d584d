-- `writer::write_header` meets its contract: a refusal of the plan leaves the output alone; else
-- the plan's header is written, and zeros up to its data. Assumes nothing.
use native.Mathlib.Omega.{arith}
use lib.ListN.{length, length-take, length-drop}
use Rattle.fields.proofs.Chain.{chain}
use Rattle.writer.proofs.Planned.{PlannedBy, planned-by, header-end, header-room, start-room, left-written}
use Rattle.writer.proofs.write_header.Goals.{In_ok-plan}
use Rattle.writer.proofs.write_header.Goals as goal

-- what the plan tells
told : (c : In_ok-plan) →
    let a = c.args in
    PlannedBy a.dialect a.alignment (length a.out.now) a.s.now c.in_ok-plan.plan
told c = planned-by _ _ _ _ c.in_ok-plan.ensures

pub overflow_sub-plan : goal.overflow_sub-plan
overflow_sub-plan c = header-room (told (goal.at.overflow_sub-plan c).In_ok-plan)

pub put_zeros-requires : goal.put_zeros-requires
put_zeros-requires c =
    let p = told (goal.at.put_zeros-requires c).In_ok-plan in
    simp (length-take, length-drop) (omega (arith, header-end p, header-room p, start-room p, c.write_records-end.ensures.count, c.write_records-end.auto.out))

pub returns-clause-out_after : goal.returns-clause-out_after
returns-clause-out_after c =
    let p = told (goal.at.returns-clause-out_after c).In_ok-plan in
    rw (← c.in_ok-plan.ensures) (left-written p (chain c.write_records-end.ensures c.put_zeros.ensures.wrote))
