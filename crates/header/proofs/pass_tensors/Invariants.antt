use Prim.Native.Nat.{◌-◌}
use mathlib.Core.Path.{◌≡◌}
use Rattle.reading.specs.Reading.{run, seen}
use Rattle.reading.specs.Each.{each, fold}
use Rattle.reading.specs.Ceilings.{under}
use Rattle.tensors.specs.Format.{tensor, total_of}
use Rattle.header.specs.Steps.{noted}
use Rattle.header.proofs.pass_tensors.Given as goal

abbrev pub invariant-loop : goal.invariant-loop
invariant-loop l =
    seen (fold (noted l.alignment) l.initial.misaligned) (run (each (λ z. under l.limits (tensor l.dialect z)) total_of l.n 0) l.s l.at)
    ≡ seen (fold (noted l.alignment) l.misaligned) (run (each (λ z. under l.limits (tensor l.dialect z)) total_of (l.n - l.counter) l.total) l.s l.from)
