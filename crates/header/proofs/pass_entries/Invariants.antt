use Prim.Native.Nat.{◌-◌}
use mathlib.Core.Path.{◌≡◌}
use Rattle.reading.specs.Reading.{run, seen}
use Rattle.reading.specs.Each.{times, fold}
use Rattle.values.specs.Format.{entry}
use Rattle.header.specs.Format.{latest}
use Rattle.header.proofs.pass_entries.Given as goal

abbrev pub invariant-loop : goal.invariant-loop
invariant-loop l =
    seen (fold latest 32) (run (times l.n (entry l.dialect l.cap)) l.s l.at) ≡ seen (fold latest l.alignment) (run (times (l.n - l.counter) (entry l.dialect l.cap)) l.s l.from)
