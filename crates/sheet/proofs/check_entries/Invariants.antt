use Prim.Native.Nat.{◌-◌, ◌<◌}
use mathlib.Core.Path.{◌≡◌}
use lib.ListN.{length}
use Rattle.sheet.specs.Sheet.{as_many_as, is_metadata, next, key_of, last_in, entries_from}
use Rattle.sheet.proofs.ManyEntries.{added}
use Rattle.sheet.specs.Steps.{count_of}
use Rattle.sheet.proofs.check_entries.Given as goal

abbrev pub invariant-loop-last : goal.invariant-loop-last
invariant-loop-last l =
    (l.count < l.from) × (count_of (entries_from l.s 1) ≡ added l.count (count_of (as_many_as is_metadata next key_of (length l.s - l.count) (last_in l.s l.last) l.s l.from)))

abbrev pub decreases-loop-last : goal.decreases-loop-last
decreases-loop-last l = length l.s - l.from
