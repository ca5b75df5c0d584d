use Prim.Native.Nat.{◌-◌}
use mathlib.Core.Path.{◌≡◌}
use mathlib.Core.Bool.{true}
use mathlib.Core.List.{map}
use Rattle.reading.specs.Back.{got}
use Rattle.reading.specs.Reading.{run, is_accepted}
use Rattle.reading.specs.Each.{times}
use Rattle.layout.specs.Layout.{layout_from, layout_of}
use Rattle.sheet.specs.Format.{tensor}
use Rattle.plan.specs.Header.{piece_of}
use Rattle.plan.specs.Plan.{laid_of}
use Rattle.plan.proofs.lay_tensors.Given as goal

abbrev pub invariant-loop-i : goal.invariant-loop-i
invariant-loop-i l =
    (is_accepted (run (times (l.m - l.i-counter) tensor) l.s l.from) ≡ true)
    × (laid_of (layout_of l.alignment (map piece_of (got (run (times l.m tensor) l.s l.first)))) ≡ laid_of (layout_from l.alignment l.laid l.i-counter (map piece_of (got (run (times (l.m - l.i-counter) tensor) l.s l.from)))))
