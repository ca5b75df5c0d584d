-- `kinds::block_size` meets its contract: the two longest ranges, and past the table there is no
-- block. The other arms the check finds alone. Assumes nothing.
use Prim.Native.Nat.{ℕ}
use mathlib.Core.Path.{refl}
use mathlib.Core.List.{List, [], ◌∷◌}
use native.Mathlib.Omega.{arith}
use Rattle.kinds.specs.declared.Block.{Block}
use Rattle.kinds.specs.Table.{block_of}
use Rattle.kinds.proofs.KindTable.{in_range, left_over}
use Rattle.kinds.proofs.block_size.Goals as goal

abbrev numbers : Block → ℕ
numbers b = b.numbers

-- the single kinds of each arm: they are looked at before the ranges
abbrev arms : List (List ℕ)
arms = (30 ∷ []) ∷ (20 ∷ 39 ∷ []) ∷ (29 ∷ []) ∷ []

pub returns-in_default : goal.returns-in_default
unfolding block_of
returns-in_default c = left_over numbers arms 0 39 refl tt _ (omega arith) c.in_default.in_default-own.rest

pub returns-in-10-to-19-3 : goal.returns-in-10-to-19-3
unfolding block_of
returns-in-10-to-19-3 c = in_range numbers arms 256 29 10 tt _ (omega arith) (omega arith) c.in-10-to-19.in_default-own.rest

pub returns-in-0-to-1-3 : goal.returns-in-0-to-1-3
unfolding block_of
returns-in-0-to-1-3 c = in_range numbers arms 1 24 5 tt _ (omega arith) (omega arith) c.in-0-to-1.in_default-own.rest
