-- A sheet is refused for one reason only, 31. Assumes nothing.
use Rattle.std.specs.Prelude.{if◌then◌else◌}
use Prim.Native.Nat.{ℕ, zero, suc}
use mathlib.Core.Path.{◌≡◌}
use mathlib.Core.Bool.{Bool, true, false}
use mathlib.Core.List.{List, [], ◌∷◌}
use native.Mathlib.Omega.{arith}
use lib.Dec.{eqb}
use lib.ListN.{length, get_or}
use Rattle.reading.specs.Reading.{Reading, Answer, accepted, refused, run, and_then}
use Rattle.sheet.specs.Format.{tensor}
use Rattle.sheet.specs.Sheet.{consed, as_many_as, no_key, next, key_of, is_metadata, goes_on_with, entries_from, tensors_from, Records, sheet_of}

then-only : {A B : Type 0} (r : Answer A) (f : A → ℕ → Answer B) {n o : ℕ} → (refused n o ≡ r → n ≡ 31) → ((a : A) (q : ℕ) → refused n o ≡ f a q → n ≡ 31) → refused n o ≡ and_then r f → n ≡ 31
unfolding and_then
then-only (accepted a q) f first rest e = rest a q e
then-only (refused m p) f first rest e = first cc

consed-only : {A : Type 0} (r : Answer A) (p : ℕ) (others : A → ℕ → Answer (List A)) {n o : ℕ} → ((a : A) (q : ℕ) → refused n o ≡ others a q → n ≡ 31) → refused n o ≡ consed r p others → n ≡ 31
consed-only (accepted a q) p others rest e =
    then-only (others a q) (λ l o. accepted (a ∷ l) o) (rest a q) (λ l o i. let z : ◌≡◌ {A = ℕ} 0 1 = cc in absurd (omega arith)) e
consed-only (refused m o) p others rest e = cc

many_only : {S A : Type 0} (more : List ℕ → ℕ → Bool) (m : S → Reading A) (f : S → A → S) (s : List ℕ) (turns : ℕ) (z : S) (p n o : ℕ) → refused n o ≡ as_many_as more m f turns z s p → n ≡ 31
unfolding as_many_as
many_only more m f s zero z p n o e = let y : ◌≡◌ {A = ℕ} 0 1 = cc in absurd (omega arith)
many_only {A = A} more m f s (suc turns) z p n o e = by (more s p) e (λ a q. many_only more m f s turns (f z a) q n o)
  where
    by : (b : Bool) → refused n o ≡ (if b then consed (run (m z) s p) p (λ a q. as_many_as more m f turns (f z a) s q) else accepted [] p)
        → ((a : A) (q : ℕ) → refused n o ≡ as_many_as more m f turns (f z a) s q → n ≡ 31) → n ≡ 31
    by true g ih = consed-only (run (m z) s p) p (λ a q. as_many_as more m f turns (f z a) s q) ih g
    by false g ih = let y : ◌≡◌ {A = ℕ} 0 1 = cc in absurd (omega arith)

pub sheet_only : (s : List ℕ) {n o : ℕ} → refused n o ≡ sheet_of s → n ≡ 31
unfolding sheet_of entries_from tensors_from
sheet_only s {n} {o} e = by (eqb (get_or s 0 0) 1) e
  where
    parts : Answer Records
    parts = and_then (entries_from s 1) (λ es q. and_then (tensors_from s q) (λ ts e. accepted (record { entries = es; first = q; tensors = ts }) e))

    by : (b : Bool) → refused n o ≡ (if b then parts else refused 31 0) → n ≡ 31
    by true g =
        then-only (entries_from s 1) _ (many_only is_metadata next key_of s (length s) no_key 1 n o)
        (λ es q. then-only (tensors_from s q) _ (many_only {S = Unit {0}} goes_on_with (λ z. tensor) (λ z a. z) s (length s) tt q n o) (λ ts e i. let y : ◌≡◌ {A = ℕ} 0 1 = cc in absurd (omega arith)))
        g
    by false g = cc
