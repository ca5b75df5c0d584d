use Prim.Native.Nat.{◌-◌}
use mathlib.Core.Path.{◌≡◌}
use mathlib.Core.Bool.{true}
use Rattle.reading.specs.Reading.{run, is_accepted}
use Rattle.reading.specs.Each.{times}
use Rattle.sheet.specs.Format.{tensor}
use Rattle.plan.specs.Steps.{taken_from}
use Rattle.plan.proofs.PlanTurns.{tensors_length}
use Rattle.plan.proofs.tensors_room.Given as goal

abbrev pub invariant-loop : goal.invariant-loop
invariant-loop l =
    (is_accepted (run (times (l.m - l.counter) tensor) l.s l.from) ≡ true)
    × (taken_from l.initial.left (tensors_length l.dialect l.m l.s l.first) ≡ taken_from l.left (tensors_length l.dialect (l.m - l.counter) l.s l.from))
