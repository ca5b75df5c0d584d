-- Worked numbers: a file of two tensors, one byte less, and sums that pass 2 ^ 64, computed by the
-- checker. Assumes nothing.
use Prim.Native.Nat.{ℕ}
use mathlib.Core.Path.{◌≡◌, refl}
use mathlib.Core.List.{List, [], ◌∷◌}
use Rattle.reading.specs.Replies.{gives, refuses}
use Rattle.ranges.specs.Ranges.{check_from}

-- the rows of tensor a (kind 0, length 5: 20 bytes at 0) and of tensor b (kind 1, length 3: 6 bytes
-- at 32)
abbrev rows_of_ab : List (List ℕ)
rows_of_ab = (32 ∷ 1 ∷ 0 ∷ 1 ∷ 5 ∷ 1 ∷ 1 ∷ 1 ∷ 0 ∷ 20 ∷ []) ∷ (65 ∷ 1 ∷ 1 ∷ 1 ∷ 3 ∷ 1 ∷ 1 ∷ 1 ∷ 32 ∷ 6 ∷ []) ∷ []

-- the data starts at 96, and b ends at 134
whole-file : check_from 96 134 0 rows_of_ab ≡ gives tt
whole-file = refl

one-byte-less : check_from 96 133 0 rows_of_ab ≡ refuses 20 1
one-byte-less = refl

-- a file that ends before its data: already a does not fit
no_data : check_from 96 96 0 rows_of_ab ≡ refuses 20 0
no_data = refl

-- no tensors: nothing ends after the file, wherever the data would start
no_tensors : check_from 96 0 0 [] ≡ gives tt
no_tensors = refl

-- Sums that would wrap in 64 bits: the rows of three stored files of crates/listing_cases.

-- fault_offset_and_size_whose_sum_wraps, 36 bytes at 2 ^ 64 - 32: in 64 bits they would end at 68
wrapping_offset : check_from 64 134 0 ((32 ∷ 1 ∷ 0 ∷ 1 ∷ 9 ∷ 1 ∷ 1 ∷ 1 ∷ 18446744073709551584 ∷ 36 ∷ []) ∷ []) ≡ refuses 20 0
wrapping_offset = refl

-- the rows of fault_sizes_whose_sum_wraps: 2 ^ 64 - 4 bytes at 0, and 8 bytes at 0
abbrev rows_of_tu : List (List ℕ)
rows_of_tu = (32 ∷ 1 ∷ 0 ∷ 1 ∷ 4611686018427387903 ∷ 1 ∷ 1 ∷ 1 ∷ 0 ∷ 18446744073709551612 ∷ []) ∷ (65 ∷ 1 ∷ 0 ∷ 1 ∷ 2 ∷ 1 ∷ 1 ∷ 1 ∷ 0 ∷ 8 ∷ []) ∷ []

-- in 64 bits the first would end at 92
wrapping_size : check_from 96 134 0 rows_of_tu ≡ refuses 20 0
wrapping_size = refl

-- the rows of fault_alignment_of_2_64_less_8: a at 0, and b at the alignment
abbrev rows_far_apart : List (List ℕ)
rows_far_apart = (69 ∷ 1 ∷ 0 ∷ 1 ∷ 5 ∷ 1 ∷ 1 ∷ 1 ∷ 0 ∷ 20 ∷ []) ∷ (102 ∷ 1 ∷ 1 ∷ 1 ∷ 3 ∷ 1 ∷ 1 ∷ 1 ∷ 18446744073709551608 ∷ 6 ∷ []) ∷ []

-- its data starts at the alignment too: in 64 bits a would end at 12
wrapping_start : check_from 18446744073709551608 134 0 rows_far_apart ≡ refuses 20 0
wrapping_start = refl

-- a sum that just fits is no refusal: an end of 2 ^ 64 - 1 in a file of as many bytes
largest_end : check_from 64 18446744073709551615 0 ((32 ∷ 1 ∷ 24 ∷ 1 ∷ 31 ∷ 1 ∷ 1 ∷ 1 ∷ 18446744073709551520 ∷ 31 ∷ []) ∷ []) ≡ gives tt
largest_end = refl
