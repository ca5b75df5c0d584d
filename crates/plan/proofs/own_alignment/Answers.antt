-- `plan::own_alignment` meets its contract. The invariant: what is said so far, with the entries
-- that are left, is what all of them say. Assumes nothing.
use mathlib.Core.Path.{sym, ap, ◌∙◌}
use Rattle.reading.specs.Reading.{is_accepted}
use Rattle.reading.specs.Each.{fold}
use Rattle.plan.specs.Header.{own_alignment_with}
use Rattle.plan.proofs.PlanTurns.{got-ends, entry_here, entry-rest, entry_value, entry-said}
use Rattle.plan.proofs.own_alignment.Goals.{else-is_alignment_key, then-is_alignment_key}
use Rattle.plan.proofs.own_alignment.Goals as goal

pub known_entry-next-requires : goal.known_entry-next-requires
known_entry-next-requires c = entry_here _ _ _ _ c.loop-test.true c.loop.invariant.0

pub value_alignment-requires : goal.value_alignment-requires
value_alignment-requires c =
    ap is_accepted (sym (entry_value _ _ _ _ c.loop-test.true c.loop.invariant.0 c.known_entry-next.ensures))

pub loop-preserved : goal.loop-preserved
loop-preserved c =
    let v = c.loop in
    let below = c.loop-test.true in
    let left = v.invariant.1 ∙ entry-said _ _ _ _ below v.invariant.0 c.known_entry-next.ensures v.said in
    let same = sym (rw c.inside.ensures at c.is_alignment_key.ensures) in (
      entry-rest _ _ _ _ below v.invariant.0 c.known_entry-next.ensures,
      (elim c.if-is_alignment_key.branch [ then-is_alignment_key w ↦ rw (w.said-is, w.value_alignment.ensures) (rw (same ∙ w.if-is_alignment_key.true) at left) | else-is_alignment_key w ↦ rw w.said-is (rw (same ∙ w.if-is_alignment_key.false) at left) ]),
    )

pub returns : goal.returns
returns c =
    let v = c.loop in
    sym (v.invariant.1 ∙ ap (fold own_alignment_with v.said) (got-ends _ _ _ _ _ c.loop-test.false))
