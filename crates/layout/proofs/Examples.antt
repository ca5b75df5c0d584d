-- Worked numbers: two tensors laid out, and a refusal of each kind, computed by the checker.
-- Assumes nothing.
use Rattle.std.specs.Prelude.{Ok, Err}
use Prim.Native.Nat.{ℕ, ◌-◌, ◌^◌}
use mathlib.Core.Path.{◌≡◌, refl}
use mathlib.Core.List.{[], ◌∷◌}
use mathlib.Core.Bool.{true, false}
use Rattle.kinds.specs.Table.{block_of}
use Rattle.layout.specs.Layout.{place_of, Piece, laid_out_from, refused_at, layout_from, layout_of}
use Rattle.layout.specs.Placement.{is_placement}
use Rattle.layout.specs.declared.Laid.{Laid}

abbrev piece : ℕ → ℕ → Piece
piece length kind = record { lengths = length ∷ 1 ∷ 1 ∷ 1 ∷ []; kind = kind }

abbrev laid : ℕ → ℕ → Laid
laid total next = record { total = total; next = next }

-- tensors a (kind 0, length 5: 20 bytes) and b (kind 1, length 3: 6 bytes) at alignment 32
two-tensors : layout_of 32 (piece 5 0 ∷ piece 3 1 ∷ []) ≡ laid_out_from (0 ∷ 32 ∷ []) (laid 8 64)
unfolding layout_from place_of block_of
two-tensors = refl

-- those offsets are a placement of 20 and 6 bytes, and a later one is too;
-- an earlier one is none: 0 is before the end of a, and 24 is no multiple
our_placement : is_placement 32 (20 ∷ 6 ∷ []) (0 ∷ 32 ∷ []) ≡ true
our_placement = refl

later_placement : is_placement 32 (20 ∷ 6 ∷ []) (0 ∷ 64 ∷ []) ≡ true
later_placement = refl

before_the_end : is_placement 32 (20 ∷ 6 ∷ []) (0 ∷ 0 ∷ []) ≡ false
before_the_end = refl

no_multiple : is_placement 32 (20 ∷ 6 ∷ []) (0 ∷ 24 ∷ []) ≡ false
no_multiple = refl

-- no tensors: no offsets, and an area of no bytes
no_tensors : layout_of 32 [] ≡ laid_out_from [] (laid 0 0)
unfolding layout_from
no_tensors = refl

-- of the second tensor the kind is not written
kind-not-written : layout_of 32 (piece 5 0 ∷ piece 3 31 ∷ []) ≡ refused_at 35 1
unfolding layout_from place_of block_of
kind-not-written = refl

-- of the second tensor the first length is not whole blocks, and that of a tensor with no
-- dimensions, which is 1, is not either
partial-block : layout_of 32 (piece 5 0 ∷ piece 33 2 ∷ []) ≡ refused_at 17 1
unfolding layout_from place_of block_of
partial-block = refl

partial_of_one : place_of 32 (laid 0 0) (1 ∷ 1 ∷ 1 ∷ 1 ∷ []) 2 ≡ Err 17
unfolding place_of block_of
partial_of_one = refl

-- lengths of which a product does not fit, and a product of which the bytes do not
product-over : place_of 32 (laid 0 0) (2 ^ 32 ∷ 2 ^ 32 ∷ 0 ∷ 1 ∷ []) 0 ≡ Err 13
unfolding place_of block_of
product-over = refl

bytes-over : place_of 32 (laid 0 0) (2 ^ 62 ∷ 1 ∷ 1 ∷ 1 ∷ []) 0 ≡ Err 14
unfolding place_of block_of
bytes-over = refl

-- products that fit one by one, and not together
total-over : place_of 32 (laid (2 ^ 64 - 5) 0) (5 ∷ 1 ∷ 1 ∷ 1 ∷ []) 0 ≡ Err 15
unfolding place_of block_of
total-over = refl

-- an end that does not fit, and one that does while its padding does not
end-over : place_of 8 (laid 0 (2 ^ 64 - 16)) (5 ∷ 1 ∷ 1 ∷ 1 ∷ []) 0 ≡ Err 36
unfolding place_of block_of
end-over = refl

padding-over : place_of 32 (laid 0 (2 ^ 64 - 32)) (5 ∷ 1 ∷ 1 ∷ 1 ∷ []) 0 ≡ Err 36
unfolding place_of block_of
padding-over = refl

-- one alignment earlier both fit
padding-fits : place_of 32 (laid 0 (2 ^ 64 - 64)) (5 ∷ 1 ∷ 1 ∷ 1 ∷ []) 0 ≡ Ok (record { offset = 2 ^ 64 - 64; size = 20; laid = laid 5 (2 ^ 64 - 32) })
unfolding place_of block_of
padding-fits = refl
