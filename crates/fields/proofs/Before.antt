-- The byte order of texts is one: no text comes before itself, of two texts at most one comes
-- before the other and only equal ones neither way, and what comes after a text comes after all
-- that the text comes after. Assumes nothing.
use Prim.Native.Nat.{ℕ, ◌<◌}
use mathlib.Core.Path.{◌≡◌, refl, sym, subst, ◌∙◌}
use mathlib.Core.Bool.{Bool, true, false}
use mathlib.Core.List.{List, [], ◌∷◌}
use native.Mathlib.Omega.{arith}
use lib.Dec.{T, ltb}
use borrow.Author.Tests.{lt-ltb, le-ltb, eq-eqb, ne_eqb, ltb-true, ltb-false}
use Rattle.fields.specs.Order.{before}

-- no test both holds and fails
pub clash : {A : Type 0} {b : Bool} → b ≡ true → b ≡ false → A
clash h g = absurd (subst T (sym h ∙ g) tt)

-- how two bytes compare
pub data Bytes (x y : ℕ) : Type 0 where
  less : x < y → Bytes x y
  same : x ≡ y → Bytes x y
  more : y < x → Bytes x y

pub compared : (x y : ℕ) → Bytes x y
compared x y = first (ltb x y) refl (ltb y x) refl
  where
    first : (b : Bool) → ltb x y ≡ b → (d : Bool) → ltb y x ≡ d → Bytes x y
    first true e d f = less (ltb-true x y e)
    first false e true f = more (ltb-true y x f)
    first false e false f = let h = ltb-false x y e in let g = ltb-false y x f in same (omega arith)

module _ (x y : ℕ) (xs ys : List ℕ) where
  pub at_less : x < y → before (x ∷ xs) (y ∷ ys) ≡ true
  at_less h = rw (lt-ltb x y h) refl

  pub at_same : x ≡ y → before (x ∷ xs) (y ∷ ys) ≡ before xs ys
  at_same e = rw (le-ltb x y (omega arith), eq-eqb x y e) refl

  pub at_more : y < x → before (x ∷ xs) (y ∷ ys) ≡ false
  at_more h = rw (le-ltb x y (omega arith), ne_eqb x y (λ e. absurd (omega arith))) refl

pub not_itself : (a : List ℕ) → before a a ≡ false
not_itself [] = refl
not_itself (x ∷ xs) = at_same x x xs xs refl ∙ not_itself xs

pub not-both : (a b : List ℕ) → before a b ≡ true → before b a ≡ false
not-both [] [] h = clash h refl
not-both [] (y ∷ ys) h = refl
not-both (x ∷ xs) [] h = clash h refl
not-both (x ∷ xs) (y ∷ ys) h = by (compared x y) (not-both xs ys)
  where
    by : Bytes x y → (before xs ys ≡ true → before ys xs ≡ false) → before (y ∷ ys) (x ∷ xs) ≡ false
    by (less l) rest = at_more y x ys xs l
    by (same e) rest = at_same y x ys xs (sym e) ∙ rest (sym (at_same x y xs ys e) ∙ h)
    by (more m) rest = clash h (at_more x y xs ys m)

pub not_through : (a b c : List ℕ) → before a b ≡ false → before b c ≡ false → before a c ≡ false
not_through [] [] c h g = g
not_through [] (y ∷ ys) c h g = clash refl h
not_through (x ∷ xs) [] [] h g = refl
not_through (x ∷ xs) [] (z ∷ zs) h g = clash refl g
not_through (x ∷ xs) (y ∷ ys) [] h g = refl
not_through (x ∷ xs) (y ∷ ys) (z ∷ zs) h g = by (compared x y) (compared y z) (not_through xs ys zs)
  where
    by : Bytes x y → Bytes y z → (before xs ys ≡ false → before ys zs ≡ false → before xs zs ≡ false) → before (x ∷ xs) (z ∷ zs) ≡ false
    by (less l) k rest = clash (at_less x y xs ys l) h
    by (same e) (less l) rest = clash (at_less y z ys zs l) g
    by (more m) (less l) rest = clash (at_less y z ys zs l) g
    by (same e) (same f) rest = at_same x z xs zs (e ∙ f) ∙ rest (sym (at_same x y xs ys e) ∙ h) (sym (at_same y z ys zs f) ∙ g)
    by (same e) (more n) rest = at_more x z xs zs (omega arith)
    by (more m) (same f) rest = at_more x z xs zs (omega arith)
    by (more m) (more n) rest = at_more x z xs zs (omega arith)

-- texts of which neither comes before the other are equal
pub neither : (a b : List ℕ) → before a b ≡ false → before b a ≡ false → a ≡ b
neither [] [] h g = refl
neither [] (y ∷ ys) h g = clash refl h
neither (x ∷ xs) [] h g = clash refl g
neither (x ∷ xs) (y ∷ ys) h g = by (compared x y) (neither xs ys)
  where
    by : Bytes x y → (before xs ys ≡ false → before ys xs ≡ false → xs ≡ ys) → x ∷ xs ≡ y ∷ ys
    by (less l) rest = clash (at_less x y xs ys l) h
    by (same e) rest = rw (e, rest (sym (at_same x y xs ys e) ∙ h) (sym (at_same y x ys xs (sym e)) ∙ g))
    by (more m) rest = clash (at_less y x ys xs m) g

-- so a text that comes before another comes before all that the other comes before
pub through : (a b c : List ℕ) → before a b ≡ true → before b c ≡ true → before a c ≡ true
through a b c h g = by (before a c) refl
  where
    by : (t : Bool) → before a c ≡ t → before a c ≡ true
    by true e = e
    by false e = clash h (not_through a c b e (not-both b c g))
