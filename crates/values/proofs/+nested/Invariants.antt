-- The measures of the cycle: 3 depth for an array, one more for a value, and two more for items.
-- The loop: from here, the items that are left give what all of them do.
use Prim.Native.Nat.{◌+◌, ◌-◌}
use mathlib.Core.Path.{◌≡◌}
use Rattle.reading.specs.Each.{times}
use Rattle.reading.specs.Reading.{run, passed}
use Rattle.values.specs.Format.{value_of, array}
use Rattle.values.proofs.+nested.Given as goal

abbrev pub decreases-pass_items : goal.decreases-pass_items
decreases-pass_items l = l.depth + l.depth + l.depth + 2

abbrev pub decreases-read_array : goal.decreases-read_array
decreases-read_array l = l.depth + l.depth + l.depth

abbrev pub decreases-read_value_of : goal.decreases-read_value_of
decreases-read_value_of l = l.depth + l.depth + l.depth + 1

abbrev pub invariant-pass_items-loop : goal.invariant-pass_items-loop
invariant-pass_items-loop l =
    passed (run (times l.n (value_of (array l.depth l.dialect) l.dialect l.o l.t)) l.s l.at)
    ≡ passed (run (times (l.n - l.counter) (value_of (array l.depth l.dialect) l.dialect l.o l.t)) l.s l.from)
