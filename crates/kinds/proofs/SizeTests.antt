-- The size of a tensor by its tests, one after the other: its kind, its first length, the
-- product of its shape, its bytes. Assumes nothing.
use Rattle.std.specs.Prelude.{Some, None, Ok, Err}
use Prim.Native.Nat.{ℕ, ◌*◌, ◌/◌, ◌≤◌, ◌<◌, ◌^◌}
use mathlib.Core.Path.{◌≡◌, sym}
use mathlib.Core.Bool.{true, false}
use mathlib.Core.List.{List}
use native.Mathlib.Omega.{arith}
use native.Mathlib.Nat.{mul_comm}
use lib.Dec.{leb}
use borrow.Author.Tests.{le-leb, leb-true, lt-ltb}
use Rattle.kinds.specs.declared.Block.{Block}
use Rattle.kinds.specs.Table.{block_of, known_kind}
use Rattle.kinds.specs.Shape.{greatest, first_length, whole_blocks, product_of, products_fit, bounded_product, measure_of}
use Rattle.kinds.proofs.KindTable.{small-block}
use Rattle.kinds.proofs.Products.{few_fit, fitted, answered, refused}

-- of few numbers the bytes fit, whatever the kind
pub few_numbers_fit : (n k : ℕ) → n < 2 ^ 55 → true ≡ leb (n * (block_of k).bytes) greatest
few_numbers_fit n k h = sym (le-leb _ _ (few_fit n (block_of k).bytes h (small-block k)))

-- n numbers in blocks of the kind k, each of b bytes: whether their bytes fit
module _ (n k : ℕ) {b : ℕ} (is : b ≡ (block_of k).bytes) where
  pub many_fit : {m : ℕ} → Some m ≡ fitted (b * n) → true ≡ leb (n * (block_of k).bytes) greatest
  many_fit e = rw (mul_comm, ← is) (sym (answered (leb (b * n) greatest) (b * n) e).0)

  pub many_not : None ≡ fitted (b * n) → false ≡ leb (n * (block_of k).bytes) greatest
  many_not e = rw (mul_comm, ← is) (sym (refused (leb (b * n) greatest) (b * n) e))

-- a is the block of the kind k
module _ (s : List ℕ) (k : ℕ) {a : Block} (is : a ≡ block_of k) where
  -- it holds no number, or some
  pub no_kind : a.numbers ≡ 0 → Err 11 ≡ measure_of s k
  no_kind none = let h : (block_of k).numbers ≡ 0 = cc in rw h

  known : (a.numbers ≡ 0 → ⊥) → known_kind k ≡ true
  known some = let h : 0 < a.numbers = omega arith in lt-ltb 0 (block_of k).numbers (rw is at h)

  -- then the first length is not whole blocks, or a product does not fit
  pub no_whole : (a.numbers ≡ 0 → ⊥) → false ≡ whole_blocks (first_length s) k → Err 17 ≡ measure_of s k
  no_whole some w = rw (known some, ← w)

  pub no_product : (a.numbers ≡ 0 → ⊥) → true ≡ whole_blocks (first_length s) k → None ≡ bounded_product s → Err 13 ≡ measure_of s k
  no_product some w e = rw (known some, ← w, refused (products_fit s) (product_of s) e)

-- the kind is known, the first length is whole blocks, and n is the product
pub record Passed (s : List ℕ) (k : ℕ) (a : Block) (n : ℕ) : Type 0 where
  pub is : a ≡ block_of k
  pub some : a.numbers ≡ 0 → ⊥
  pub whole : true ≡ whole_blocks (first_length s) k
  pub fits : Some n ≡ bounded_product s

module _ {s : List ℕ} {k : ℕ} {a : Block} {n : ℕ} (passed : Passed s k a n) where
  -- then the bytes do not fit, or they do
  pub no_size : false ≡ leb (n * (block_of k).bytes) greatest → Err 14 ≡ measure_of s k
  no_size f =
      let h = answered (products_fit s) (product_of s) passed.fits in
      rw (known s k passed.is passed.some, ← passed.whole, h.0, h.1, ← f)

  pub bytes_fit : true ≡ leb (n * (block_of k).bytes) greatest → n * a.bytes ≤ greatest
  bytes_fit f = rw passed.is (leb-true _ _ (sym f))

  pub sized : true ≡ leb (n * (block_of k).bytes) greatest → Ok (record { product = n; size = n * a.bytes / a.numbers }) ≡ measure_of s k
  sized f =
      let h = answered (products_fit s) (product_of s) passed.fits in
      rw (known s k passed.is passed.some, ← passed.whole, h.0, h.1, ← f, passed.is)
