use Prim.Native.Nat.{◌-◌}
use mathlib.Core.Path.{◌≡◌}
use mathlib.Core.Bool.{true}
use Rattle.reading.specs.Back.{got}
use Rattle.reading.specs.Reading.{run, is_accepted}
use Rattle.reading.specs.Each.{times, fold}
use Rattle.sheet.specs.Format.{metadata}
use Rattle.plan.specs.Header.{own_alignment_with, own_alignment}
use Rattle.plan.proofs.own_alignment.Given as goal

abbrev pub invariant-loop : goal.invariant-loop
invariant-loop l =
    (is_accepted (run (times (l.n - l.counter) metadata) l.s l.from) ≡ true)
    × (own_alignment (got (run (times l.n metadata) l.s 1)) ≡ fold own_alignment_with l.said (got (run (times (l.n - l.counter) metadata) l.s l.from)))
