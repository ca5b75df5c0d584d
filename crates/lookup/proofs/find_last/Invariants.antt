use Prim.Native.Nat.{◌-◌}
use mathlib.Core.Path.{◌≡◌}
use Rattle.std.specs.Prelude.{None}
use Rattle.reading.specs.Reading.{run, seen}
use Rattle.reading.specs.Each.{times, fold}
use Rattle.values.specs.Format.{entry}
use Rattle.lookup.specs.Questions.{sought}
use Rattle.lookup.proofs.find_last.Given as goal

abbrev pub invariant-loop : goal.invariant-loop
invariant-loop l =
    seen (fold (sought l.key l.s) None) (run (times l.n (entry l.dialect 3)) l.s l.at) ≡ seen (fold (sought l.key l.s) l.found) (run (times (l.n - l.counter) (entry l.dialect 3)) l.s l.from)
