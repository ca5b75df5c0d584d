-- Worked numbers: products and sizes, computed by the checker.
-- Assumes nothing.
use Rattle.std.specs.Prelude.{Some, None, Ok, Err}
use Prim.Native.Nat.{◌-◌, ◌^◌}
use mathlib.Core.Path.{◌≡◌, refl}
use mathlib.Core.List.{[], ◌∷◌}
use Rattle.kinds.specs.Table.{block_of}
use Rattle.kinds.specs.Shape.{bounded_product, measure_of}

-- a product on the way is too great, though the last is 0
over-before-zero : bounded_product (2 ^ 32 ∷ 2 ^ 32 ∷ 0 ∷ 1 ∷ []) ≡ None
over-before-zero = refl

-- from the left each product is 0
zero-first : bounded_product (0 ∷ 2 ^ 32 ∷ 2 ^ 32 ∷ 1 ∷ []) ≡ Some 0
zero-first = refl

-- 33 numbers are not whole blocks of 32, whatever the other lengths; a number that names no kind is
-- refused before that
partial-block : measure_of (33 ∷ 1 ∷ 1 ∷ 1 ∷ []) 2 ≡ Err 17
unfolding block_of
partial-block = refl

partial-before-product : measure_of (33 ∷ 2 ^ 32 ∷ 2 ^ 32 ∷ 1 ∷ []) 2 ≡ Err 17
unfolding block_of
partial-before-product = refl

kind-before-partial : measure_of (33 ∷ 1 ∷ 1 ∷ 1 ∷ []) 4 ≡ Err 11
unfolding block_of
kind-before-partial = refl

-- no numbers are whole blocks
none-whole : measure_of (0 ∷ 1 ∷ 1 ∷ 1 ∷ []) 2 ≡ Ok (record { product = 0; size = 0 })
unfolding block_of
none-whole = refl

-- one number of four bytes
one_number : measure_of (1 ∷ 1 ∷ 1 ∷ 1 ∷ []) 0 ≡ Ok (record { product = 1; size = 4 })
unfolding block_of
one_number = refl

-- the product fits, and four bytes for each number do not
bytes-over : measure_of (2 ^ 62 ∷ 1 ∷ 1 ∷ 1 ∷ []) 0 ≡ Err 14
unfolding block_of
bytes-over = refl

-- one number less, and they do
bytes_just_fit : measure_of ((2 ^ 62 - 1) ∷ 1 ∷ 1 ∷ 1 ∷ []) 0 ≡ Ok (record { product = 2 ^ 62 - 1; size = 2 ^ 64 - 4 })
unfolding block_of
bytes_just_fit = refl
