-- The measures of the cycle: depth + depth for an array, and one more for arrays. The loop: from
-- here, the arrays that are left end where all of them do.
use Prim.Native.Nat.{◌+◌, ◌-◌}
use mathlib.Core.Path.{◌≡◌}
use Rattle.reading.specs.Each.{times}
use Rattle.reading.specs.Reading.{run}
use Rattle.sheet.specs.Format.{array, item}
use Rattle.sheet.specs.Steps.{step_of}
use Rattle.sheet.proofs.+arrays.Given as goal

abbrev pub decreases-pass_array : goal.decreases-pass_array
decreases-pass_array l = l.depth + l.depth

abbrev pub decreases-pass_arrays : goal.decreases-pass_arrays
decreases-pass_arrays l = l.depth + l.depth + 1

abbrev pub invariant-pass_arrays-loop : goal.invariant-pass_arrays-loop
invariant-pass_arrays-loop l =
    step_of (run (times l.n (array l.depth (item l.depth))) l.s l.at) ≡ step_of (run (times (l.n - l.counter) (array l.depth (item l.depth))) l.s l.from)
