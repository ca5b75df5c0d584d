-- Turns of the comparison of two texts. Assumes nothing.
use Rattle.std.specs.Prelude.{if◌then◌else◌}
use Prim.Native.Nat.{ℕ, ◌+◌, ◌≤◌, ◌<◌}
use mathlib.Core.Path.{◌≡◌, refl}
use mathlib.Core.Bool.{Bool, true, false}
use mathlib.Core.List.{List}
use native.Mathlib.Omega.{arith}
use borrow.Author.Tests.{ltb-true, ltb-false}
use lib.Dec.{ltb, eqb}
use lib.ListN.{length, drop, get_or, drop_of_length-le}
use lib.Seq.{drop-cons}
use native.Mathlib.Numerals.{add-one}
use Rattle.std.proofs.Common.{Ordering}
use Rattle.std.specs.Ordering.{nat_cmp, is_lt}
use Rattle.std.specs.Cmp.Lexicographic.{slice_cmp}
use Rattle.std.proofs.lemmas.Cmp.{same_from_slice_cmp}
use Rattle.std.proofs.lemmas.Bool.Decides.{nat_tests}
use Rattle.fields.specs.Order.{before}

-- the comparison from the byte i on
abbrev pub before_from : List ℕ → List ℕ → ℕ → Bool
before_from a b i = before (drop i a) (drop i b)

module _ (a b : List ℕ) (i : ℕ) where
  pub before-turn :
      i < length a → i < length b →
      before_from a b i ≡ (if ltb (get_or a i 0) (get_or b i 0) then true else if eqb (get_or a i 0) (get_or b i 0) then before_from a b (i + 1) else false)
  before-turn h j = rw (drop-cons a i 0 h, drop-cons b i 0 j, add-one i)

  pub before-short : i < length a → length b ≤ i → before_from a b i ≡ false
  before-short h j = rw (drop-cons a i 0 h, drop_of_length-le b {i = i} j)

  -- where all of the first text was compared, what follows in the other decides
  longer : length a ≤ i → i < length b → true ≡ before_from a b i
  longer h j = rw (drop_of_length-le a {i = i} h, drop-cons b i 0 j) refl

  equal : length a ≤ i → length b ≤ i → false ≡ before_from a b i
  equal h j = rw (drop_of_length-le a {i = i} h, drop_of_length-le b {i = i} j) refl

  decided : i ≡ length a → (t : Bool) → ltb (length a) (length b) ≡ t → t ≡ before_from a b i
  decided h true e = let l = ltb-true (length a) (length b) e in longer (omega arith) (omega arith)
  decided h false e = let l = ltb-false (length a) (length b) e in equal (omega arith) (omega arith)

  pub before-ends : i ≡ length a → ltb (length a) (length b) ≡ before_from a b i
  before-ends h = decided h (ltb (length a) (length b)) refl

-- the order is that of slices of bytes
pub before_std : (a b : List ℕ) (o : Ordering) → o ≡ slice_cmp nat_cmp a b → is_lt o ≡ before a b
before_std = same_from_slice_cmp nat_cmp is_lt before refl (λ _ _. refl) (λ _ _. refl) (λ x y xs ys o h. grind (arith, nat_tests))
