-- Records that are filled one by one, from the first on. Assumes nothing.
use mathlib.Core.Path.{◌≡◌, refl, sym, ap}
use Prim.Native.Nat.{ℕ, zero, suc, ◌+◌, ◌<◌, min}
use native.Mathlib.Omega.{arith}
use native.Mathlib.Nat.{add-zero, add-suc}
use mathlib.Core.List.{List, [], ◌∷◌}
use lib.ListN.{length, get_or, set, take}
use Rattle.tensor_records.specs.declared.TensorRecord.{TensorRecord}
use Rattle.tensor_records.specs.Records.{record_of, filled_from}

-- no rows fill nothing
pub none_filled : (ys : List TensorRecord) → filled_from ys [] ≡ ys
none_filled [] = refl
none_filled (y ∷ ys) = refl

-- as many records as before
pub same_length : (ys : List TensorRecord) (rows : List (List ℕ)) → length (filled_from ys rows) ≡ length ys
same_length [] rows = refl
same_length (y ∷ ys) [] = refl
same_length (y ∷ ys) (row ∷ rows) = ap suc (same_length ys rows)

-- one more
one_more : (ys : List TensorRecord) (rows : List (List ℕ)) (i : ℕ) → i < length ys → i < length rows
    → set (filled_from ys (take i rows)) i (record_of (get_or rows i [])) ≡ filled_from ys (take (suc i) rows)
one_more [] rows i h k = absurd (omega (arith, h))
one_more (y ∷ ys) [] i h k = absurd (omega (arith, k))
one_more (y ∷ ys) (row ∷ rows) zero h k = ap (λ (l : List TensorRecord). record_of row ∷ l) (sym (none_filled ys))
one_more (y ∷ ys) (row ∷ rows) (suc i) h k = ap (λ (l : List TensorRecord). record_of row ∷ l) (one_more ys rows i (omega (arith, h)) (omega (arith, k)))

pub next-filled : (ys : List TensorRecord) (rows : List (List ℕ)) (i : ℕ) → i < length ys → i < length rows
    → set (filled_from ys (take i rows)) i (record_of (get_or rows i [])) ≡ filled_from ys (take (i + 1) rows)
next-filled ys rows i h k = rw (add-suc, add-zero) (one_more ys rows i h k)

-- rows beyond the last record, and beyond the last row, fill nothing
pub cut-filled : (ys : List TensorRecord) (rows : List (List ℕ)) (i n : ℕ) → min i (min (length rows) (length ys)) ≡ min n (min (length rows) (length ys)) → filled_from ys (take i rows) ≡ filled_from ys (take n rows)
cut-filled [] rows i n h = refl
cut-filled (y ∷ ys) [] zero zero h = refl
cut-filled (y ∷ ys) [] zero (suc n) h = refl
cut-filled (y ∷ ys) [] (suc i) zero h = refl
cut-filled (y ∷ ys) [] (suc i) (suc n) h = refl
cut-filled (y ∷ ys) (row ∷ rows) zero zero h = refl
cut-filled (y ∷ ys) (row ∷ rows) zero (suc n) h = absurd (omega (arith, h))
cut-filled (y ∷ ys) (row ∷ rows) (suc i) zero h = absurd (omega (arith, h))
cut-filled (y ∷ ys) (row ∷ rows) (suc i) (suc n) h = ap (λ (l : List TensorRecord). record_of row ∷ l) (cut-filled ys rows i n (omega (arith, h)))

-- what a loop that fills them needs
pub ruleset fill_steps = (none_filled, next-filled, cut-filled)
