use mathlib.Core.Path.{◌≡◌}
use lib.ListN.{drop}
use Rattle.std.specs.Prelude.{IfSome}
use Rattle.key_order.specs.Order.{best_from, key_at, next_key}
use Rattle.key_order.proofs.next_key.Given as goal

abbrev pub invariant-loop-i : goal.invariant-loop-i
invariant-loop-i l =
    (next_key l.s l.entries l.last ≡ best_from l.s l.entries l.last l.best l.i (drop l.i l.entries)) × IfSome l.best (λ row. l.best_key ≡ key_at l.s l.entries row)
