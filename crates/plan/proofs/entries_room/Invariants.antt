use Prim.Native.Nat.{◌-◌}
use mathlib.Core.Path.{◌≡◌}
use mathlib.Core.Bool.{true}
use Rattle.reading.specs.Reading.{run, is_accepted}
use Rattle.reading.specs.Each.{times}
use Rattle.sheet.specs.Format.{metadata}
use Rattle.plan.specs.Steps.{taken_from}
use Rattle.plan.proofs.PlanTurns.{entries_length}
use Rattle.plan.proofs.entries_room.Given as goal

abbrev pub invariant-loop : goal.invariant-loop
invariant-loop l =
    (is_accepted (run (times (l.n - l.counter) metadata) l.s l.from) ≡ true)
    × (taken_from l.initial.left (entries_length l.dialect l.n l.s 1) ≡ taken_from l.left (entries_length l.dialect (l.n - l.counter) l.s l.from))
