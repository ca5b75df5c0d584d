use mathlib.Core.Path.{◌≡◌}
use lib.ListN.{drop}
use Rattle.ranges.specs.Ranges.{check_from}
use Rattle.ranges.proofs.check_ranges.Given as goal

abbrev pub invariant-loop-i : goal.invariant-loop-i
invariant-loop-i l =
    check_from l.start l.file 0 l.rows ≡ check_from l.start l.file l.i (drop l.i l.rows)
