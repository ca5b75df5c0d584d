use Prim.Native.Nat.{◌<◌}
use mathlib.Core.Path.{◌≡◌}
use lib.ListN.{length}
use Rattle.reading.specs.Back.{got}
use Rattle.fetches.specs.Trace.{fetches}
use Rattle.fetches.specs.Sweep.{Swept, left}
use Rattle.fetches.proofs.swept.Given as goal

abbrev pub invariant-loop-w : goal.invariant-loop-w
invariant-loop-w l =
    (l.n ≡ length (got (fetches l.trace))) × (l.w.from < l.end) × Swept (got (fetches l.trace)) l.lo l.end l.w

abbrev pub decreases-loop-w : goal.decreases-loop-w
decreases-loop-w l = left l.n l.end l.w
