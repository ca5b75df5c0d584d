use Prim.Native.Nat.{◌-◌}
use mathlib.Core.Path.{◌≡◌}
use Rattle.reading.specs.Reading.{run}
use Rattle.tensors.specs.Format.{total_of}
use Rattle.lookup.specs.Search.{seek}
use Rattle.lookup.specs.Tensors.{looked_tensor}
use Rattle.lookup.proofs.seek_tensor.Given as goal

abbrev pub invariant-loop-passed : goal.invariant-loop-passed
invariant-loop-passed l =
    run (seek (looked_tensor l.name l.dialect) total_of l.n 0 0) l.s l.at ≡ run (seek (looked_tensor l.name l.dialect) total_of (l.n - l.passed) l.total l.passed) l.s l.from
