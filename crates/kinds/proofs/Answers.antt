-- What the answer of `kinds::size` tells of the tests behind it. Assumes nothing.
use Rattle.std.specs.Prelude.{Result, Ok, Err}
use Prim.Native.Nat.{ℕ, ◌*◌}
use mathlib.Core.Path.{◌≡◌, refl, ap}
use mathlib.Core.Bool.{Bool, true, false}
use mathlib.Core.List.{List}
use native.Mathlib.Omega.{arith}
use Rattle.reading.specs.Choice.{require}
use Rattle.kinds.specs.Table.{block_of, known_kind}
use Rattle.kinds.specs.Shape.{first_length, whole_blocks, product_of, products_fit, size_within, size_of, measure_of}
use Rattle.kinds.proofs.WholeBlocks.{size_exact}
use Rattle.kinds.specs.declared.Measure.{Measure}

-- the tests that hold where a size was answered
pub record Sized (x : List ℕ) (k p b : ℕ) : Type 0 where
  pub whole : whole_blocks (first_length x) k ≡ true
  pub products : products_fit x ≡ true
  pub size : size_within x k ≡ true
  pub parameters : p ≡ product_of x
  pub bytes : b ≡ size_of x k

-- the first test that fails where none was answered of a kind that is known
pub data Unsized (x : List ℕ) (k w : ℕ) : Type 0 where
  no_whole : whole_blocks (first_length x) k ≡ false → w ≡ 17 → Unsized x k w
  no_product : whole_blocks (first_length x) k ≡ true → products_fit x ≡ false → w ≡ 13 → Unsized x k w
  no_size : whole_blocks (first_length x) k ≡ true → products_fit x ≡ true → size_within x k ≡ false → w ≡ 14 → Unsized x k w

-- the answer by its tests
abbrev by : Bool → Bool → Bool → Bool → ℕ → ℕ → Result Measure ℕ
by known whole products size p b =
    require known (Err 11) (require whole (Err 17) (require products (Err 13) (require size (Err 14) (Ok (record { product = p; size = b })))))

module _ (x : List ℕ) (k : ℕ) where
  sized-by : (p b : ℕ) (known whole products size : Bool) → whole_blocks (first_length x) k ≡ whole → products_fit x ≡ products → size_within x k ≡ size
      → Ok (record { product = p; size = b }) ≡ by known whole products size (product_of x) (size_of x k) → Sized x k p b
  sized-by p b true true true true d e g h =
      let m : ◌≡◌ {A = Measure} (record { product = p; size = b }) (record { product = product_of x; size = size_of x k }) = cc in
      record { whole = d; products = e; size = g; parameters = ap (λ m. m.product) m; bytes = ap (λ m. m.size) m }
  sized-by p b true true true false d e g h = let z : ◌≡◌ {A = ℕ} 0 1 = cc in absurd (omega arith)
  sized-by p b true true false size d e g h = let z : ◌≡◌ {A = ℕ} 0 1 = cc in absurd (omega arith)
  sized-by p b true false products size d e g h = let z : ◌≡◌ {A = ℕ} 0 1 = cc in absurd (omega arith)
  sized-by p b false whole products size d e g h = let z : ◌≡◌ {A = ℕ} 0 1 = cc in absurd (omega arith)

  pub sized : {p b : ℕ} → Ok (record { product = p; size = b }) ≡ measure_of x k → Sized x k p b
  sized {p} {b} h = sized-by p b (known_kind k) (whole_blocks (first_length x) k) (products_fit x) (size_within x k) refl refl refl h

  unsized-by : (w : ℕ) (known whole products size : Bool) → known ≡ true → whole_blocks (first_length x) k ≡ whole → products_fit x ≡ products → size_within x k ≡ size
      → Err w ≡ by known whole products size (product_of x) (size_of x k) → Unsized x k w
  unsized-by w true true true true s d e g h = let z : ◌≡◌ {A = ℕ} 0 1 = cc in absurd (omega arith)
  unsized-by w true true true false s d e g h = no_size d e g (cc)
  unsized-by w true true false size s d e g h = no_product d e (cc)
  unsized-by w true false products size s d e g h = no_whole d (cc)
  unsized-by w false whole products size s d e g h = let z : ◌≡◌ {A = ℕ} 0 1 = cc in absurd (omega arith)

  pub unsized : {w : ℕ} → known_kind k ≡ true → Err w ≡ measure_of x k → Unsized x k w
  unsized {w} s h = unsized-by w (known_kind k) (whole_blocks (first_length x) k) (products_fit x) (size_within x k) s refl refl refl h

  -- a size that was answered is exact
  pub measure_exact : {p b : ℕ} → Ok (record { product = p; size = b }) ≡ measure_of x k → b * (block_of k).numbers ≡ p * (block_of k).bytes
  measure_exact h = let z = sized h in rw (z.bytes, z.parameters) (size_exact x k z.whole)
