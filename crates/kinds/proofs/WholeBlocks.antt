-- Whole blocks: which numbers are, how that is tested, and that of those nothing is rounded. A line
-- of a tensor is as many numbers as its first length says. Assumes nothing.
use Rattle.std.specs.Prelude.{if◌then◌else◌}
use Prim.Native.Nat.{ℕ, ◌*◌, ◌%◌, ◌∣◌}
use mathlib.Core.Path.{◌≡◌, refl, sym, ap, ◌∙◌}
use mathlib.Core.Bool.{Bool, true, false, not}
use mathlib.Core.List.{List, [], ◌∷◌}
use native.Mathlib.Omega.{arith}
use native.Mathlib.Nat.{
  mul-zero,
  zero-mul,
  zero-div,
  one-mul,
  mul_comm,
  mul_assoc,
  mul-div_assoc,
  div-mul_cancel,
  mod-one,
  dvd_trans,
  dvd-mul_right_of_dvd,
  dvd_of_mod-eq-zero,
  mod-eq-zero_of_dvd,
}
use lib.Dec.{eqb}
use borrow.Author.Tests.{eqb-true, eq-eqb, ne_eqb, ltb-false}
use Rattle.kinds.specs.Table.{block_of, written_kind}
use Rattle.kinds.specs.Shape.{first_length, whole_blocks, product_from, product_of, bytes_for, size_of}
use Rattle.kinds.proofs.KindTable.{Left, long_blocks, written-32, written-divides, short-block}

-- How it is tested.

-- a multiple of 256 is whole blocks of every kind
multiple-by : (n k : ℕ) (w : Bool) → written_kind k ≡ w → n % 256 ≡ 0 → (if w then eqb (n % (block_of k).numbers) 0 else true) ≡ true
multiple-by n k true is e =
    let block : (block_of k).numbers ∣ 256 = dvd_of_mod-eq-zero (block_of k).numbers (eqb-true _ _ (written-divides k is)) in
    eq-eqb _ _ (mod-eq-zero_of_dvd (block_of k).numbers (dvd_trans (block_of k).numbers block (dvd_of_mod-eq-zero 256 e)))
multiple-by n k false is e = refl

pub multiple-whole : (n k : ℕ) → n % 256 ≡ 0 → true ≡ whole_blocks n k
multiple-whole n k e = sym (multiple-by n k (written_kind k) refl e)

module _ (n k : ℕ) where
  -- by the remainder where a block holds 32 numbers
  pub whole-32 : (block_of k).numbers ≡ 32 → eqb (n % 32) 0 ≡ whole_blocks n k
  whole-32 e = rw (written-32 k e, e) refl

  -- where it holds 256, and n is no multiple of that, only without bytes
  without_bytes : (w : Bool) → not w ≡ (if w then false else true)
  without_bytes true = refl
  without_bytes false = refl

  pub whole-256 : (block_of k).numbers ≡ 256 → (n % 256 ≡ 0 → ⊥) → not (written_kind k) ≡ whole_blocks n k
  whole-256 e h = rw (e, ne_eqb (n % 256) 0 h) (without_bytes (written_kind k))

  -- and else in any case
  short-by : (w : Bool) → written_kind k ≡ w → Left (Unit {0}) long_blocks (block_of k).numbers → true ≡ (if w then eqb (n % (block_of k).numbers) 0 else true)
  short-by true is l = rw (short-block k l is) (sym (eq-eqb (n % 1) 0 (mod-one n)))
  short-by false is l = refl

  pub whole-short : Left (Unit {0}) long_blocks (block_of k).numbers → true ≡ whole_blocks n k
  whole-short l = short-by (written_kind k) refl l

-- What is so of them.

-- blocks that take no bytes, or that n is a multiple of
data Divided (n k : ℕ) : Type 0 where
  no_bytes : (block_of k).bytes ≡ 0 → Divided n k
  divides : (block_of k).numbers ∣ n → Divided n k

divided-by : (n k : ℕ) (w : Bool) → written_kind k ≡ w → (if w then eqb (n % (block_of k).numbers) 0 else true) ≡ true → Divided n k
divided-by n k true is h = divides (dvd_of_mod-eq-zero (block_of k).numbers (eqb-true _ _ h))
divided-by n k false is h = no_bytes (omega (arith, ltb-false 0 (block_of k).bytes is))

divided : (n k : ℕ) → whole_blocks n k ≡ true → Divided n k
divided n k h = divided-by n k (written_kind k) refl h

exact : (n k : ℕ) → Divided n k → bytes_for n k * (block_of k).numbers ≡ n * (block_of k).bytes
exact n k (no_bytes e) = rw (e, mul-zero, zero-div, zero-mul) refl
exact n k (divides d) = div-mul_cancel (block_of k).numbers (dvd-mul_right_of_dvd (block_of k).numbers d (block_of k).bytes)

-- whole blocks are whole bytes: as many blocks as n numbers make take them, and so do those of a line
pub whole-exact : (n k : ℕ) → whole_blocks n k ≡ true → bytes_for n k * (block_of k).numbers ≡ n * (block_of k).bytes
whole-exact n k h = exact n k (divided n k h)

-- what divides the first length divides the product
divides-product : (a x : ℕ) (l : List ℕ) → a ∣ x → a ∣ product_from x l
divides-product a x [] d = d
divides-product a x (n ∷ l) d = divides-product a (x * n) l (dvd-mul_right_of_dvd a d n)

product-divided : (shape : List ℕ) (k : ℕ) → Divided (first_length shape) k → Divided (product_of shape) k
product-divided shape k (no_bytes e) = no_bytes e
product-divided [] k (divides d) = divides d
product-divided (n ∷ l) k (divides d) = divides (divides-product (block_of k).numbers (1 * n) l (rw one-mul d))

-- the size of a tensor whose first length is whole blocks is exact
pub size_exact : (shape : List ℕ) (k : ℕ) → whole_blocks (first_length shape) k ≡ true → size_of shape k * (block_of k).numbers ≡ product_of shape * (block_of k).bytes
size_exact shape k h = exact (product_of shape) k (product-divided shape k (divided (first_length shape) k h))

-- and it is that of a line as often as the other lengths say
product-from : (x : ℕ) (l : List ℕ) → product_from x l ≡ x * product_of l
product-from x [] = sym (omega arith)
product-from x (n ∷ l) = product-from (x * n) l ∙ mul_assoc x n (product_of l) ∙ ap (λ y. x * y) (sym (product-from n l)) ∙ ap (λ y. x * product_from y l) (sym (one-mul n))

lines-by : (n m k : ℕ) → Divided n k → bytes_for (n * m) k ≡ m * bytes_for n k
lines-by n m k (no_bytes e) = rw (e, mul-zero, mul-zero, zero-div, mul-zero) refl
lines-by n m k (divides d) =
    let turned : n * m * (block_of k).bytes ≡ m * (n * (block_of k).bytes) = ap (λ x. x * (block_of k).bytes) (mul_comm n m) ∙ mul_assoc m n (block_of k).bytes in
    rw turned (mul-div_assoc (block_of k).numbers m (dvd-mul_right_of_dvd (block_of k).numbers d (block_of k).bytes))

pub size_of_lines : (n : ℕ) (l : List ℕ) (k : ℕ) → whole_blocks n k ≡ true → size_of (n ∷ l) k ≡ product_of l * bytes_for n k
size_of_lines n l k h =
    let product : product_of (n ∷ l) ≡ n * product_of l = ap (λ x. product_from x l) (one-mul n) ∙ product-from n l in
    rw product (lines-by n (product_of l) k (divided n k h))
