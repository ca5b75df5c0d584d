-- `kinds::type_size` meets its contract: the blocks of kinds that are in no arm take no bytes. The arms
-- the check finds alone. Assumes nothing.
use Prim.Native.Nat.{ℕ}
use mathlib.Core.Path.{refl}
use mathlib.Core.List.{List, [], ◌∷◌}
use native.Mathlib.Omega.{arith}
use Rattle.kinds.specs.declared.Block.{Block}
use Rattle.kinds.specs.Table.{block_of}
use Rattle.kinds.proofs.KindTable.{left_over}
use Rattle.kinds.proofs.type_size.Goals as goal

abbrev bytes : Block → ℕ
bytes b = b.bytes

-- the keys of each arm
abbrev arms : List (List ℕ)
arms =
    (0 ∷ 26 ∷ []) ∷ (1 ∷ 25 ∷ 30 ∷ []) ∷ (2 ∷ 20 ∷ []) ∷ (3 ∷ []) ∷ (6 ∷ []) ∷ (7 ∷ []) ∷ (8 ∷ []) ∷ (9 ∷ []) ∷ (10 ∷ []) ∷
    (11 ∷ 21 ∷ []) ∷ (12 ∷ []) ∷ (13 ∷ []) ∷ (14 ∷ []) ∷ (15 ∷ []) ∷ (16 ∷ 35 ∷ []) ∷ (17 ∷ []) ∷ (18 ∷ []) ∷ (19 ∷ []) ∷
    (22 ∷ []) ∷ (23 ∷ []) ∷ (24 ∷ []) ∷ (27 ∷ []) ∷ (28 ∷ []) ∷ (29 ∷ []) ∷ (34 ∷ []) ∷ (39 ∷ []) ∷ []

pub returns-in_default : goal.returns-in_default
unfolding block_of
returns-in_default c = left_over bytes arms 0 0 refl tt _ (omega arith) c.in_default.in_default-own.rest
