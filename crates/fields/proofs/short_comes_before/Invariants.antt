use mathlib.Core.Path.{◌≡◌}
use Rattle.fields.specs.Order.{before}
use Rattle.fields.proofs.Order.{before_from}
use Rattle.fields.proofs.short_comes_before.Given as goal

abbrev pub invariant-loop-i : goal.invariant-loop-i
invariant-loop-i l = before l.a l.b ≡ before_from l.a l.b l.i
