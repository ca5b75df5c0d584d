use Prim.Native.Nat.{◌-◌}
use mathlib.Core.Path.{◌≡◌}
use lib.ListN.{length}
use Rattle.fetches.specs.Trace.{fetches}
use Rattle.fetches.specs.Replay.{reply_to}
use Rattle.fetches.proofs.Records.{rest}
use Rattle.fetches.proofs.check_trace.Given as goal

abbrev pub invariant-loop-at : goal.invariant-loop-at
invariant-loop-at l = reply_to (fetches l.trace) ≡ rest l.trace l.at

abbrev pub decreases-loop-at : goal.decreases-loop-at
decreases-loop-at l = length l.trace - l.at
