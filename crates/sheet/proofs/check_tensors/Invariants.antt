use Prim.Native.Nat.{◌-◌, ◌≤◌}
use mathlib.Core.Path.{◌≡◌}
use lib.ListN.{length}
use Rattle.sheet.specs.Format.{tensor}
use Rattle.sheet.specs.Sheet.{as_many_as, goes_on_with, tensors_from}
use Rattle.sheet.proofs.ManyEntries.{added}
use Rattle.sheet.specs.Steps.{count_of}
use Rattle.sheet.proofs.check_tensors.Given as goal

abbrev pub invariant-loop-from : goal.invariant-loop-from
invariant-loop-from l =
    (l.count ≤ l.from) × (count_of (tensors_from l.s l.at) ≡ added l.count (count_of (as_many_as {S = Unit {0}} goes_on_with (λ z. tensor) (λ z a. z) (length l.s - l.count) tt l.s l.from)))

abbrev pub decreases-loop-from : goal.decreases-loop-from
decreases-loop-from l = length l.s - l.from
