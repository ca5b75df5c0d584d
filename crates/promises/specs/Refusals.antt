-- The refusals of the writer, of the layout and of the range check: which numbers they are, how
-- many places each may have, and that each of them is given.
use Rattle.std.specs.Prelude.{ℕ, suc, ◌-◌, ◌^◌, ◌≤◌, ◌<◌, ◌≡◌, Bool, true, List, [], ◌∷◌, ◌++◌, eqb, if◌then◌else◌}
use Rattle.reading.specs.Refusals.{is_one_of}
use Rattle.values.specs.Format.{alignment_key}
use Rattle.layout.specs.Layout.{refused_at, layout_of}
use Rattle.reading.specs.Replies.{refuses}
use Rattle.promises.specs.Back.{answer_for}
use Rattle.promises.specs.Known.{little, piece}

-- the refusals of a tensor that can't be laid, in the order of the tests
abbrev pub layout_refusals : List ℕ
layout_refusals = 35 ∷ 17 ∷ 13 ∷ 14 ∷ 15 ∷ 36 ∷ []

abbrev pub layout_refusal : ℕ → Bool
layout_refusal n = is_one_of n layout_refusals

-- the refusals of the writer, in the order of its tests
abbrev pub writer_refusals : List ℕ
writer_refusals = 30 ∷ 31 ∷ 32 ∷ 33 ∷ 34 ∷ 35 ∷ 17 ∷ 13 ∷ 14 ∷ 15 ∷ 36 ∷ 37 ∷ 38 ∷ []

abbrev pub writer_refusal : ℕ → Bool
writer_refusal n = is_one_of n writer_refusals

-- how many places a refusal of the writer may have, counted from 0, for a sheet of so many bytes
-- and tensors: a tensor's number, a place in the sheet or its end, or 0 alone
abbrev pub places_of : (bytes tensors : ℕ) → ℕ → ℕ
places_of bytes tensors n = if layout_refusal n then tensors else if eqb n 31 then suc bytes else 1

-- what is sure of a refusal n of the writer at the place p, for a sheet of so many bytes and
-- tensors: n is listed, p is one of its places, and 37 takes a sheet of 4 GiB or more
pub record Listed (bytes tensors n p : ℕ) : Type 0 where
  pub number : writer_refusal n ≡ true
  pub place : p < places_of bytes tensors n
  pub long : n ≡ 37 → 2 ^ 32 ≤ bytes

-- Sheets that are refused.

-- the alignment 64, as a u32
abbrev pub sheet64 : List ℕ
sheet64 = 1 ∷ 0 ∷ 0 ∷ 0 ∷ 27 ∷ 1 ∷ 0 ∷ 0 ∷ 0 ∷ 17 ∷ (alignment_key ++ (4 ∷ 0 ∷ 0 ∷ 0 ∷ 64 ∷ []))

-- a tensor with a name of one byte, of the kind k and of one length, which is given by its bytes
abbrev pub flat_entry : ℕ → ℕ → List ℕ → List ℕ
flat_entry name k length = 0 ∷ 0 ∷ 0 ∷ 19 ∷ 2 ∷ 0 ∷ 0 ∷ 0 ∷ 1 ∷ name ∷ 0 ∷ 0 ∷ 0 ∷ k ∷ 1 ∷ length

-- a tensor with two lengths of 2 ^ 32, of which the product is 2 ^ 64
abbrev pub square_entry : List ℕ
square_entry = 0 ∷ 0 ∷ 0 ∷ 27 ∷ 2 ∷ 0 ∷ 0 ∷ 0 ∷ 1 ∷ 97 ∷ 0 ∷ 0 ∷ 0 ∷ 0 ∷ 2 ∷ 0 ∷ 0 ∷ 0 ∷ 1 ∷ 0 ∷ 0 ∷ 0 ∷ 0 ∷ 0 ∷ 0 ∷ 0 ∷ 1 ∷ 0 ∷ 0 ∷ 0 ∷ 0 ∷ []

-- tensor a, of kind 24, with 2 ^ 63 numbers of a byte each
abbrev pub half_entry : List ℕ
half_entry = flat_entry 97 24 (128 ∷ 0 ∷ 0 ∷ 0 ∷ 0 ∷ 0 ∷ 0 ∷ 0 ∷ [])

-- Each number of the writer is given, but for 37, which no sheet below 4 GiB reaches. The output
-- has no bytes. That the range check gives 20 is among the known numbers.
pub record Given : Type 0 where
  pub version : answer_for (little 4) 32 (1 ∷ []) [] ≡ refuses 30 0
  pub contents : answer_for (little 3) 32 (1 ∷ 0 ∷ []) [] ≡ refuses 31 1
  pub alignment : answer_for (little 3) 12 (1 ∷ []) [] ≡ refuses 32 0
  pub no_u32 : answer_for (little 3) (2 ^ 32) (1 ∷ []) [] ≡ refuses 33 0
  pub other : answer_for (little 3) 32 sheet64 [] ≡ refuses 34 0
  pub kind : answer_for (little 3) 32 (1 ∷ flat_entry 97 31 (0 ∷ 0 ∷ 0 ∷ 0 ∷ 0 ∷ 0 ∷ 0 ∷ 1 ∷ [])) [] ≡ refuses 35 0
  pub partial : answer_for (little 3) 32 (1 ∷ (flat_entry 97 0 (0 ∷ 0 ∷ 0 ∷ 0 ∷ 0 ∷ 0 ∷ 0 ∷ 5 ∷ []) ++ flat_entry 98 2 (0 ∷ 0 ∷ 0 ∷ 0 ∷ 0 ∷ 0 ∷ 0 ∷ 33 ∷ []))) [] ≡ refuses 17 1
  pub product : answer_for (little 3) 32 (1 ∷ square_entry) [] ≡ refuses 13 0
  pub size : answer_for (little 3) 32 (1 ∷ flat_entry 97 0 (64 ∷ 0 ∷ 0 ∷ 0 ∷ 0 ∷ 0 ∷ 0 ∷ 0 ∷ [])) [] ≡ refuses 14 0
  pub total : answer_for (little 3) 32 (1 ∷ (half_entry ++ half_entry)) [] ≡ refuses 15 1
  pub end : answer_for (little 3) 32 (1 ∷ flat_entry 97 0 (63 ∷ 255 ∷ 255 ∷ 255 ∷ 255 ∷ 255 ∷ 255 ∷ 255 ∷ [])) [] ≡ refuses 36 0
  pub room : answer_for (little 3) 32 (1 ∷ []) [] ≡ refuses 38 0
  -- the six of a tensor, by the layout itself
  pub laid-kind : layout_of 32 (piece 5 0 ∷ piece 3 31 ∷ []) ≡ refused_at 35 1
  pub laid-partial : layout_of 32 (piece 5 0 ∷ piece 33 2 ∷ []) ≡ refused_at 17 1
  pub laid-product : layout_of 32 (record { lengths = 2 ^ 32 ∷ 2 ^ 32 ∷ 0 ∷ 1 ∷ []; kind = 0 } ∷ []) ≡ refused_at 13 0
  pub laid-size : layout_of 32 (piece (2 ^ 62) 0 ∷ []) ≡ refused_at 14 0
  pub laid-total : layout_of 32 (piece (2 ^ 63) 24 ∷ piece (2 ^ 63) 24 ∷ []) ≡ refused_at 15 1
  pub laid_end : layout_of 32 (piece (2 ^ 62 - 1) 0 ∷ []) ≡ refused_at 36 0
