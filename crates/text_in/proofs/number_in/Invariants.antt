use mathlib.Core.Path.{◌≡◌}
use lib.ListN.{drop}
use Rattle.text_in.specs.Decimal.{number_from, number_of}
use Rattle.text_in.proofs.number_in.Given as goal

abbrev pub invariant-loop-b : goal.invariant-loop-b
invariant-loop-b l = number_of l.text ≡ number_from l.n (drop l.b-index l.text)
