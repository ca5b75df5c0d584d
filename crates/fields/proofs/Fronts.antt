-- Of two texts with fronts of one length, the fronts as big-endian numbers tell which comes before
-- the other, where these numbers differ. Assumes nothing.
use Prim.Native.Nat.{ℕ, suc, ◌+◌, ◌*◌, ◌^◌, ◌≤◌, ◌<◌}
use mathlib.Core.Path.{◌≡◌, refl, sym, ap, ◌∙◌}
use mathlib.Core.Bool.{Bool, true, false}
use mathlib.Core.List.{List, [], ◌∷◌, ◌++◌, reverse, reverse-cons}
use native.Mathlib.Omega.{arith}
use native.Mathlib.Nat.{mul-suc, mul-le-mul_left}
use lib.Dec.{ltb}
use lib.ListN.{length, length-reverse}
use borrow.Author.Tests.{lt-ltb, le-ltb, ltb-true, ltb-false}
use Rattle.reading.specs.Back.{All}
use Rattle.fields.specs.Bytes.{Byte}
use Rattle.fields.specs.Order.{before}
use Rattle.fields.specs.Value.{le_value, value}
use Rattle.fields.proofs.Before.{Bytes, less, same, more, compared, at_less, at_same, at_more}
use Rattle.fields.proofs.Bytes.{value-small}
use Rattle.fields.proofs.Numbers.{le_append}

-- a big-endian number, its first byte apart
first_apart : (x : ℕ) (xs : List ℕ) → value true (x ∷ xs) ≡ value true xs + 256 ^ length xs * x
first_apart x xs =
    ap le_value (reverse-cons x xs) ∙ le_append (reverse xs) (x ∷ []) ∙
    ap (λ n. value true xs + 256 ^ n * (x + 0)) (length-reverse xs) ∙
    ap (λ n. value true xs + 256 ^ length xs * n) (omega arith)

-- a lesser first byte decides
lesser_first : (u x y v w : ℕ) → x < y → v < u → v + u * x < w + u * y
lesser_first u x y v w h small =
    let i : u * suc x ≡ u * x + u = mul-suc u x in
    let j : u * suc x ≤ u * y = mul-le-mul_left u h in
    omega arith

-- equal summands change no comparison
same_more : (k v w : ℕ) → ltb v w ≡ ltb (v + k) (w + k)
same_more k v w = by (ltb v w) refl
  where
    by : (b : Bool) → ltb v w ≡ b → ltb v w ≡ ltb (v + k) (w + k)
    by true e = e ∙ sym (lt-ltb (v + k) (w + k) (let l = ltb-true v w e in omega arith))
    by false e = e ∙ sym (le-ltb (v + k) (w + k) (let l = ltb-false v w e in omega arith))

pub fronts_decide : (xs ys r t : List ℕ) → length xs ≡ length ys → All Byte xs → All Byte ys → (value true xs ≡ value true ys → ⊥) → before (xs ++ r) (ys ++ t) ≡ ltb (value true xs) (value true ys)
fronts_decide [] [] r t e h g d = absurd (d refl)
fronts_decide [] (y ∷ ys) r t e h g d = absurd (omega (arith, e))
fronts_decide (x ∷ xs) [] r t e h g d = absurd (omega (arith, e))
fronts_decide (x ∷ xs) (y ∷ ys) r t e h g d = by (compared x y) (λ q. fronts_decide xs ys r t (omega (arith, e)) h.1 g.1 q)
  where
    n : length xs ≡ length ys
    n = omega (arith, e)

    u : ℕ
    u = 256 ^ length xs

    left : value true (x ∷ xs) ≡ value true xs + u * x
    left = first_apart x xs

    right : value true (y ∷ ys) ≡ value true ys + u * y
    right = first_apart y ys ∙ ap (λ k. value true ys + 256 ^ k * y) (sym n)

    by : Bytes x y → ((value true xs ≡ value true ys → ⊥) → before (xs ++ r) (ys ++ t) ≡ ltb (value true xs) (value true ys)) → before (x ∷ xs ++ r) (y ∷ ys ++ t) ≡ ltb (value true (x ∷ xs)) (value true (y ∷ ys))
    by (less l) rest = at_less x y (xs ++ r) (ys ++ t) l ∙ sym (lt-ltb (value true (x ∷ xs)) (value true (y ∷ ys)) (rw (left, right) (lesser_first u x y (value true xs) (value true ys) l (value-small true xs h.1))))
    by (same s) rest =
        at_same x y (xs ++ r) (ys ++ t) s ∙
        rest (λ q. d (left ∙ rw (q, s) refl ∙ sym right)) ∙
        same_more (u * x) (value true xs) (value true ys) ∙
        rw (left, right, s) refl
    by (more m) rest = at_more x y (xs ++ r) (ys ++ t) m ∙ sym (le-ltb (value true (x ∷ xs)) (value true (y ∷ ys)) (rw (left, right) (let k = lesser_first u y x (value true ys) (value true xs) m (rw n (value-small true ys g.1)) in omega arith)))
