-- `lookup::find_last` meets its contract. The invariant: what is found so far, with the entries
-- that are left, gives what all of them give. Assumes nothing.
use mathlib.Core.Path.{sym, ◌∙◌}
use Rattle.reading.proofs.Repetition.{times-ends, times-stops, times-seen}
use Rattle.lookup.specs.Questions.{sought}
use Rattle.lookup.proofs.KeysInside.{key-inside}
use Rattle.lookup.proofs.LastEntry.{folded, never}
use Rattle.lookup.proofs.find_last.Goals.{else-is_key, then-is_key}
use Rattle.lookup.proofs.find_last.Goals as goal

pub returns-in_default : goal.returns-in_default
returns-in_default c = absurd (never _ _ _ _ _ c.loop.invariant c.requires (times-stops _ _ _ _ _ c.loop-test.true c.in_default.ensures))

pub is_key-requires : goal.is_key-requires
is_key-requires c = key-inside _ _ _ _ c.in-Ok.ensures

pub loop-preserved : goal.loop-preserved
loop-preserved c =
    let left = c.loop.invariant ∙ times-seen _ _ _ _ _ c.loop-test.true c.in-Ok.ensures (sought c.args.key.now c.args.s.now) c.loop.found in
    let same = sym c.is_key.ensures in
    elim c.if-is_key.branch [ then-is_key w ↦ rw w.found-is (rw (same ∙ w.if-is_key.true) at left) | else-is_key w ↦ rw w.found-is (rw (same ∙ w.if-is_key.false) at left) ]

pub returns : goal.returns
returns c = folded _ _ _ _ _ c.loop.invariant (times-ends _ _ _ _ _ c.loop-test.false)
