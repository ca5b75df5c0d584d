use Prim.Native.Nat.{◌-◌}
use mathlib.Core.Path.{◌≡◌}
use Rattle.reading.specs.Reading.{run, passed}
use Rattle.reading.specs.Each.{times}
use Rattle.values.specs.Format.{text}
use Rattle.values.proofs.pass_texts.Given as goal

abbrev pub invariant-loop : goal.invariant-loop
invariant-loop l =
    passed (run (times l.n (text l.dialect)) l.s l.at) ≡ passed (run (times (l.n - l.counter) (text l.dialect)) l.s l.from)
