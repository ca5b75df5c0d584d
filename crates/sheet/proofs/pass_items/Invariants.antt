-- From here, the items that are left end where all of them do.
use Prim.Native.Nat.{◌-◌}
use mathlib.Core.Path.{◌≡◌}
use Rattle.reading.specs.Reading.{run}
use Rattle.reading.specs.Each.{times}
use Rattle.sheet.specs.Format.{item}
use Rattle.sheet.specs.Steps.{step_of}
use Rattle.sheet.proofs.pass_items.Given as goal

abbrev pub invariant-loop : goal.invariant-loop
invariant-loop l = step_of (run (times l.n (item 1 l.t)) l.s l.at) ≡ step_of (run (times (l.n - l.counter) (item 1 l.t)) l.s l.from)
