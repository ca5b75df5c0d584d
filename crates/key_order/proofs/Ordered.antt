-- The rows in the order of their keys: the keys strictly ascend, every row's key is among them, and
-- each stands for the last row that has it. Assumes nothing.
use Rattle.std.specs.Prelude.{if◌then◌else◌, Option, Some, None}
use Prim.Native.Nat.{ℕ, zero, suc, ◌+◌, ◌≤◌, ◌<◌}
use mathlib.Core.Path.{◌≡◌, refl}
use mathlib.Core.Bool.{Bool, true, false}
use mathlib.Core.Logic.{◌⊎◌, inl, inr}
use mathlib.Core.List.{List, [], ◌∷◌}
use native.Mathlib.Omega.{arith}
use native.Mathlib.Nat.{not-suc-le-zero, le_of_suc-le-suc}
use lib.ListN.{length, get_or}
use Rattle.reading.specs.Back.{All}
use Rattle.fields.specs.Order.{before}
use Rattle.fields.proofs.Before.{clash, not_itself, neither, through}
use Rattle.key_order.specs.Order.{name_in, key_at, to_come, next_key, row_then, ordered_after, ordered}
use Rattle.key_order.proofs.NextKeyFacts.{next_best, next-after, next-latest, next-none}

-- how many rows pass a test
abbrev count : (List ℕ → Bool) → List (List ℕ) → ℕ
count f [] = 0
count f (row ∷ more) = (if f row then 1 else 0) + count f more

one_less : (b d : Bool) → (d ≡ true → b ≡ true) → (if d then 1 else 0) ≤ (if b then 1 else 0)
one_less true true h = omega arith
one_less true false h = omega arith
one_less false true h = clash (h refl) refl
one_less false false h = omega arith

at_most_one : (b : Bool) → (if b then 1 else 0) ≤ 1
at_most_one true = omega arith
at_most_one false = omega arith

count-all : (f : List ℕ → Bool) (l : List (List ℕ)) → count f l ≤ length l
count-all f [] = omega arith
count-all f (row ∷ more) = let h = count-all f more in let g = at_most_one (f row) in omega arith

count-some : (f : List ℕ → Bool) (l : List (List ℕ)) (i : ℕ) → i < length l → f (get_or l i []) ≡ true → 0 < count f l
count-some f [] i h e = absurd (not-suc-le-zero h)
count-some f (row ∷ more) zero h e = rw e (omega arith)
count-some f (row ∷ more) (suc i) h e = let g = count-some f more i (le_of_suc-le-suc h) e in omega arith

module _ (f g : List ℕ → Bool) (only : (row : List ℕ) → g row ≡ true → f row ≡ true) where
  count_less : (l : List (List ℕ)) → count g l ≤ count f l
  count_less [] = omega arith
  count_less (row ∷ more) = let h = count_less more in let k = one_less (f row) (g row) (only row) in omega arith

  -- where one row passes one test and not the other, fewer pass the other
  count-fewer : (l : List (List ℕ)) (i : ℕ) → i < length l → f (get_or l i []) ≡ true → g (get_or l i []) ≡ false → count g l < count f l
  count-fewer [] i h e d = absurd (not-suc-le-zero h)
  count-fewer (row ∷ more) zero h e d = let k = count_less more in rw (e, d) (omega arith)
  count-fewer (row ∷ more) (suc i) h e d =
      let k = count-fewer more i (le_of_suc-le-suc h) e d in
      let j = one_less (f row) (g row) (only row) in
      omega arith

module _ (s : List ℕ) (rows : List (List ℕ)) where
  -- whether a row's key is still to come
  abbrev waits : Option ℕ → List ℕ → Bool
  waits last row = to_come s rows last (name_in s row)

  -- the key stands in such a list
  abbrev pub Has : List ℕ → List (List ℕ) → Type 0
  Has key [] = ⊥
  Has key (row ∷ more) = (name_in s row ≡ key) ⊎ Has key more

  -- each key comes before the next
  abbrev pub Precedes : List ℕ → List (List ℕ) → Type 0
  Precedes row [] = Unit {0}
  Precedes row (next ∷ more) = before (name_in s row) (name_in s next) ≡ true

  abbrev pub Rising : List (List ℕ) → Type 0
  Rising [] = Unit {0}
  Rising (row ∷ more) = Precedes row more × Rising more

  -- it is a row, and no later row has its key
  pub record Surviving (row : List ℕ) : Type 0 where
    pub place : ℕ
    pub inside : place < length rows
    pub same : get_or rows place [] ≡ row
    pub last : (k : ℕ) → k < length rows → place < k → key_at s rows k ≡ key_at s rows place → ⊥

  -- what is still to come after the next key was still to come before it
  still : (last : Option ℕ) {i : ℕ} → next_key s rows last ≡ Some i → (row : List ℕ) → waits (Some i) row ≡ true → waits last row ≡ true
  still None e row h = refl
  still (Some j) {i} e row h = through (key_at s rows j) (key_at s rows i) (name_in s row) (next-after s rows (Some j) e j refl) h

  fewer : (last : Option ℕ) {i : ℕ} → next_key s rows last ≡ Some i → count (waits (Some i)) rows < count (waits last) rows
  fewer last {i} e =
      let b = next_best s rows last e in
      count-fewer (waits last) (waits (Some i)) (still last e) rows i b.inside b.comes (not_itself (key_at s rows i))

  has-after : (most : ℕ) (last : Option ℕ) → count (waits last) rows ≤ most → (k : ℕ) → k < length rows → to_come s rows last (key_at s rows k) ≡ true
      → Has (key_at s rows k) (ordered_after s rows most last)
  unfolding ordered_after
  has-after zero last few k h c = let some = count-some (waits last) rows k h c in absurd (omega arith)
  has-after (suc most) last few k h c = by (next_key s rows last) refl (λ i few' d. has-after most (Some i) few' k h d)
    where
      here : (i : ℕ) → next_key s rows last ≡ Some i → (b : Bool) → before (key_at s rows i) (key_at s rows k) ≡ b
          → ((j : ℕ) → count (waits (Some j)) rows ≤ most → before (key_at s rows j) (key_at s rows k) ≡ true → Has (key_at s rows k) (ordered_after s rows most (Some j)))
          → Has (key_at s rows k) (get_or rows i [] ∷ ordered_after s rows most (Some i))
      here i e true d rest = let f = fewer last e in inr (rest i (omega arith) d)
      here i e false d rest = inl (neither (key_at s rows i) (key_at s rows k) d ((next_best s rows last e).least k h c))

      by : (z : Option ℕ) → next_key s rows last ≡ z
          → ((j : ℕ) → count (waits (Some j)) rows ≤ most → before (key_at s rows j) (key_at s rows k) ≡ true → Has (key_at s rows k) (ordered_after s rows most (Some j)))
          → Has (key_at s rows k) (row_then rows (λ next. ordered_after s rows most next) z)
      by None e rest = clash c (next-none s rows last e k h)
      by (Some i) e rest = here i e (before (key_at s rows i) (key_at s rows k)) refl rest

  -- the first of the rows after the row i comes after it
  precedes : (most i : ℕ) → Precedes (get_or rows i []) (ordered_after s rows most (Some i))
  unfolding ordered_after
  precedes zero i = tt
  precedes (suc most) i = by (next_key s rows (Some i)) refl
    where
      by : (z : Option ℕ) → next_key s rows (Some i) ≡ z → Precedes (get_or rows i []) (row_then rows (λ next. ordered_after s rows most next) z)
      by None e = tt
      by (Some j) e = next-after s rows (Some i) e i refl

  rising_after : (most : ℕ) (last : Option ℕ) → Rising (ordered_after s rows most last)
  unfolding ordered_after
  rising_after zero last = tt
  rising_after (suc most) last = by (next_key s rows last) (rising_after most)
    where
      by : (z : Option ℕ) → ((y : Option ℕ) → Rising (ordered_after s rows most y)) → Rising (row_then rows (λ next. ordered_after s rows most next) z)
      by None rest = tt
      by (Some i) rest = (precedes most i, rest (Some i))

  surviving_after : (most : ℕ) (last : Option ℕ) → All Surviving (ordered_after s rows most last)
  unfolding ordered_after
  surviving_after zero last = tt
  surviving_after (suc most) last = by (next_key s rows last) refl (surviving_after most)
    where
      by : (z : Option ℕ) → next_key s rows last ≡ z → ((y : Option ℕ) → All Surviving (ordered_after s rows most y)) → All Surviving (row_then rows (λ next. ordered_after s rows most next) z)
      by None e rest = tt
      by (Some i) e rest = (record { place = i; inside = (next_best s rows last e).inside; same = refl; last = next-latest s rows last e }, rest (Some i))

  -- the keys strictly ascend: each stands once
  pub ordered_rises : Rising (ordered s rows)
  unfolding ordered
  ordered_rises = rising_after (length rows) None

  -- every row's key is there
  pub ordered-complete : (k : ℕ) → k < length rows → Has (key_at s rows k) (ordered s rows)
  unfolding ordered
  ordered-complete k h = has-after (length rows) None (count-all (waits None) rows) k h refl

  -- and stands for the last row that has it
  pub ordered_survives : All Surviving (ordered s rows)
  unfolding ordered
  ordered_survives = surviving_after (length rows) None
