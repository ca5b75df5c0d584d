use mathlib.Core.Path.{◌≡◌}
use mathlib.Core.List.{◌++◌}
use lib.ListN.{drop}
use Rattle.text_out.specs.Words.{digits}
use Rattle.text_out.proofs.spell.Given as goal

abbrev pub invariant-loop-at : goal.invariant-loop-at
invariant-loop-at l = digits 20 l.n ≡ digits l.at l.rest ++ drop l.at l.places
