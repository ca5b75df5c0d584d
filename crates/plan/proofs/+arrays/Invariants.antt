-- The measures of the cycle: depth + depth for an array, and one more for arrays. The loop: what is
-- left, without the arrays that are left, is what all of them leave.
use Prim.Native.Nat.{ℕ, suc, ◌+◌, ◌-◌}
use mathlib.Core.Bool.{true}
use mathlib.Core.Path.{◌≡◌}
use mathlib.Core.List.{List}
use lib.ListN.{length}
use Rattle.reading.specs.Back.{got, bytes_of_all}
use Rattle.reading.specs.Each.{times}
use Rattle.reading.specs.Reading.{run, is_accepted}
use Rattle.values.specs.declared.Dialect.{Dialect}
use Rattle.values.specs.Contents.{value_bytes}
use Rattle.sheet.specs.Format.{array, item}
use Rattle.plan.specs.Steps.{taken_from}
use Rattle.plan.proofs.+arrays.Given as goal

-- how long so many arrays are in the header
abbrev pub arrays_length : ℕ → Dialect → ℕ → List ℕ → ℕ → ℕ
arrays_length d k n s p = length (bytes_of_all (value_bytes (suc d) k) (got (run (times n (array d (item d))) s p)))

abbrev pub decreases-array_room : goal.decreases-array_room
decreases-array_room l = l.depth + l.depth

abbrev pub decreases-arrays_room : goal.decreases-arrays_room
decreases-arrays_room l = l.depth + l.depth + 1

abbrev pub invariant-arrays_room-loop : goal.invariant-arrays_room-loop
invariant-arrays_room-loop l =
    (is_accepted (run (times (l.n - l.counter) (array l.depth (item l.depth))) l.s l.from) ≡ true)
    × (taken_from l.initial.left (arrays_length l.depth l.dialect l.n l.s l.at)
    ≡ taken_from l.left (arrays_length l.depth l.dialect (l.n - l.counter) l.s l.from))
