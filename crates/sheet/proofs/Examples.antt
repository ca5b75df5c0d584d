-- Worked sheets, computed by the checker: what each says, or where its first bad entry begins.
-- Assumes nothing.
use Prim.Native.Nat.{ℕ, suc, ◌+◌}
use mathlib.Core.Path.{◌≡◌, refl}
use mathlib.Core.List.{List, [], ◌∷◌, ◌++◌}
use Rattle.reading.specs.Each.{each}
use Rattle.reading.specs.Reading.{accepted, refused, run, ◌>>=◌, here, and_then}
use Rattle.fields.specs.Value.{number}
use Rattle.values.specs.Contents.{a_scalar, a_text, an_array, Content}
use Rattle.scalars.specs.Scalars.{scalar_width}
use Rattle.values.specs.Format.{depth}
use Rattle.tensors.specs.Format.{length_at, lengths_of}
use Rattle.sheet.specs.Format.{bytes, text_of, text, scalar, array, item, value, opening, framed, SheetEntry, entry_body, metadata, shape, SheetTensor, tensor_body, tensor}
use Rattle.sheet.specs.Sheet.{as_many_as, next, entries_from, tensors_from, sheet_of}

-- 23 bytes: a tensor of a name of one byte, of the kind k and of one length n, both below 256
abbrev flat : ℕ → ℕ → ℕ → List ℕ
flat name k n = 0 ∷ 0 ∷ 0 ∷ 19 ∷ 2 ∷ 0 ∷ 0 ∷ 0 ∷ 1 ∷ name ∷ 0 ∷ 0 ∷ 0 ∷ k ∷ 1 ∷ 0 ∷ 0 ∷ 0 ∷ 0 ∷ 0 ∷ 0 ∷ 0 ∷ n ∷ []

-- 10 bytes and l: a metadata entry of n bytes, with a key of one byte, and with the type and the
-- value l
abbrev meta : ℕ → ℕ → List ℕ → List ℕ
meta key n l = 0 ∷ 0 ∷ 0 ∷ n ∷ 1 ∷ 0 ∷ 0 ∷ 0 ∷ 1 ∷ key ∷ l

-- what the tensor says whose name stands at p
abbrev flat_at : ℕ → ℕ → ℕ → ℕ → SheetTensor
flat_at p name k n = record {
  name = name ∷ [];
  parts = record { name = record { place = p; len = 1 }; kind = k; shape = record { dimensions = 1; first = n; second = 1; third = 1; fourth = 1 } };
}

-- what the entry says whose key stands at p
abbrev meta_at : ℕ → ℕ → ℕ → Content (suc depth) → SheetEntry
meta_at p key t said = record { content = record { key = key ∷ []; value = said }; parts = record { key = record { place = p; len = 1 }; form = t; value = p + 2 } }

-- Sheets without entries.

pub only-version : sheet_of (1 ∷ []) ≡ accepted (record { entries = []; first = 1; tensors = [] }) 1
unfolding sheet_of entries_from tensors_from as_many_as and_then
only-version = refl

pub empty : sheet_of [] ≡ refused 31 0
unfolding sheet_of
empty = refl

pub other-version : sheet_of (2 ∷ []) ≡ refused 31 0
unfolding sheet_of
other-version = refl

-- Tensors: a, of kind 0, with 5 numbers, and b, of kind 1, with 3 numbers.

abbrev two : List ℕ
two = 1 ∷ (flat 97 0 5 ++ flat 98 1 3)

pub two-tensors : sheet_of two ≡ accepted (record { entries = []; first = 1; tensors = flat_at 10 97 0 5 ∷ flat_at 33 98 1 3 ∷ [] }) 47
unfolding sheet_of entries_from tensors_from as_many_as and_then run ◌>>=◌ here number framed opening tensor tensor_body text text_of bytes shape lengths_of length_at
two-tensors = refl

-- a byte more, and it is a bad entry
pub stray_byte : sheet_of (two ++ (0 ∷ [])) ≡ refused 31 47
unfolding sheet_of entries_from tensors_from as_many_as and_then run ◌>>=◌ here number framed opening tensor tensor_body text text_of bytes shape lengths_of length_at
stray_byte = refl

-- five dimensions
pub five_dimensions : sheet_of (1 ∷ 0 ∷ 0 ∷ 0 ∷ 51 ∷ 2 ∷ 0 ∷ 0 ∷ 0 ∷ 1 ∷ 97 ∷ 0 ∷ 0 ∷ 0 ∷ 0 ∷ 5 ∷
    0 ∷ 0 ∷ 0 ∷ 0 ∷ 0 ∷ 0 ∷ 0 ∷ 1 ∷ 0 ∷ 0 ∷ 0 ∷ 0 ∷ 0 ∷ 0 ∷ 0 ∷ 1 ∷ 0 ∷ 0 ∷ 0 ∷ 0 ∷ 0 ∷ 0 ∷ 0 ∷ 1 ∷ 0 ∷ 0 ∷ 0 ∷ 0 ∷ 0 ∷ 0 ∷ 0 ∷ 1 ∷ 0 ∷ 0 ∷ 0 ∷ 0 ∷ 0 ∷ 0 ∷ 0 ∷ 1 ∷ [])
    ≡ refused 31 1
unfolding sheet_of entries_from tensors_from as_many_as and_then run ◌>>=◌ here number framed opening tensor tensor_body text text_of bytes shape lengths_of length_at
five_dimensions = refl

-- Metadata: under the key a the u32 7.

abbrev seven : ℕ → List ℕ
seven key = meta key 11 (4 ∷ 0 ∷ 0 ∷ 0 ∷ 7 ∷ [])

pub one_entry : sheet_of (1 ∷ seven 97) ≡ accepted (record { entries = meta_at 10 97 4 (a_scalar 4 7) ∷ []; first = 16; tensors = [] }) 16
unfolding sheet_of entries_from tensors_from as_many_as and_then next metadata run ◌>>=◌ here number framed opening entry_body text text_of bytes value scalar scalar_width
one_entry = refl

-- keys that ascend
pub two_keys : sheet_of (1 ∷ (seven 97 ++ seven 98)) ≡ accepted (record { entries = meta_at 10 97 4 (a_scalar 4 7) ∷ meta_at 25 98 4 (a_scalar 4 7) ∷ []; first = 31; tensors = [] }) 31
unfolding sheet_of entries_from tensors_from as_many_as and_then next metadata run ◌>>=◌ here number framed opening entry_body text text_of bytes value scalar scalar_width
two_keys = refl

-- a key twice: the second is bad
pub same_keys : sheet_of (1 ∷ (seven 97 ++ seven 97)) ≡ refused 31 16
unfolding sheet_of entries_from tensors_from as_many_as and_then next metadata run ◌>>=◌ here number framed opening entry_body text text_of bytes value scalar scalar_width
same_keys = refl

-- metadata after a tensor
pub metadata_late : sheet_of (1 ∷ (flat 97 0 5 ++ seven 97)) ≡ refused 31 24
unfolding sheet_of entries_from tensors_from as_many_as and_then run ◌>>=◌ here number framed opening tensor tensor_body text text_of bytes shape lengths_of length_at
metadata_late = refl

-- a bool is 0 or 1
pub bool-1 : sheet_of (1 ∷ meta 97 8 (7 ∷ 1 ∷ [])) ≡ accepted (record { entries = meta_at 10 97 7 (a_scalar 7 1) ∷ []; first = 13; tensors = [] }) 13
unfolding sheet_of entries_from tensors_from as_many_as and_then next metadata run ◌>>=◌ here number framed opening entry_body text text_of bytes value scalar scalar_width
bool-1 = refl

pub bool-2 : sheet_of (1 ∷ meta 97 8 (7 ∷ 2 ∷ [])) ≡ refused 31 1
unfolding sheet_of entries_from tensors_from as_many_as and_then next metadata run ◌>>=◌ here number framed opening entry_body text text_of bytes value scalar scalar_width
bool-2 = refl

-- no type 13
pub type-13 : sheet_of (1 ∷ meta 97 8 (13 ∷ 0 ∷ [])) ≡ refused 31 1
unfolding sheet_of entries_from tensors_from as_many_as and_then next metadata run ◌>>=◌ here number framed opening entry_body text text_of bytes value scalar scalar_width
type-13 = refl

-- a byte left over in an entry
pub left_over : sheet_of (1 ∷ meta 97 9 (7 ∷ 1 ∷ 0 ∷ [])) ≡ refused 31 1
unfolding sheet_of entries_from tensors_from as_many_as and_then next metadata run ◌>>=◌ here number framed opening entry_body text text_of bytes value scalar scalar_width
left_over = refl

-- a string is the rest of its entry: hi
pub string : sheet_of (1 ∷ meta 97 9 (8 ∷ 104 ∷ 105 ∷ [])) ≡ accepted (record { entries = meta_at 10 97 8 (a_text (104 ∷ 105 ∷ [])) ∷ []; first = 14; tensors = [] }) 14
unfolding sheet_of entries_from tensors_from as_many_as and_then next metadata run ◌>>=◌ here number framed opening entry_body text text_of bytes value scalar scalar_width
string = refl

-- an array of the strings x and yz, each with its length
pub strings : sheet_of (1 ∷ meta 97 23 (9 ∷ 8 ∷ 0 ∷ 0 ∷ 0 ∷ 2 ∷ 0 ∷ 0 ∷ 0 ∷ 1 ∷ 120 ∷ 0 ∷ 0 ∷ 0 ∷ 2 ∷ 121 ∷ 122 ∷ []))
    ≡ accepted (record { entries = meta_at 10 97 9 (an_array 8 (a_text (120 ∷ []) ∷ a_text (121 ∷ 122 ∷ []) ∷ [])) ∷ []; first = 28; tensors = [] }) 28
unfolding sheet_of entries_from tensors_from as_many_as and_then next metadata run ◌>>=◌ here number framed opening entry_body text text_of bytes value scalar scalar_width array item each
strings = refl

-- an empty array keeps its item type
pub no_items : sheet_of (1 ∷ meta 97 12 (9 ∷ 4 ∷ 0 ∷ 0 ∷ 0 ∷ 0 ∷ [])) ≡ accepted (record { entries = meta_at 10 97 9 (an_array 4 []) ∷ []; first = 17; tensors = [] }) 17
unfolding sheet_of entries_from tensors_from as_many_as and_then next metadata run ◌>>=◌ here number framed opening entry_body text text_of bytes value scalar scalar_width array item each
no_items = refl

-- also where its items would be arrays
pub no_arrays : sheet_of (1 ∷ meta 97 12 (9 ∷ 9 ∷ 0 ∷ 0 ∷ 0 ∷ 0 ∷ [])) ≡ accepted (record { entries = meta_at 10 97 9 (an_array 9 []) ∷ []; first = 17; tensors = [] }) 17
unfolding sheet_of entries_from tensors_from as_many_as and_then next metadata run ◌>>=◌ here number framed opening entry_body text text_of bytes value scalar scalar_width array item each
no_arrays = refl

-- an array of an array of one byte and an array of one string
pub arrays : sheet_of (1 ∷ meta 97 28 (9 ∷ 9 ∷ 0 ∷ 0 ∷ 0 ∷ 2 ∷ 0 ∷ 0 ∷ 0 ∷ 0 ∷ 1 ∷ 7 ∷ 8 ∷ 0 ∷ 0 ∷ 0 ∷ 1 ∷ 0 ∷ 0 ∷ 0 ∷ 1 ∷ 120 ∷ []))
    ≡ accepted (record { entries = meta_at 10 97 9 (an_array 9 (an_array 0 (a_scalar 0 7 ∷ []) ∷ an_array 8 (a_text (120 ∷ []) ∷ []) ∷ [])) ∷ []; first = 33; tensors = [] }) 33
unfolding sheet_of entries_from tensors_from as_many_as and_then next metadata run ◌>>=◌ here number framed opening entry_body text text_of bytes value scalar scalar_width array item each
arrays = refl

-- three arrays in one another, of one item each, and in the third the fourth
abbrev four : List ℕ → List ℕ
four l = 9 ∷ 9 ∷ 0 ∷ 0 ∷ 0 ∷ 1 ∷ 9 ∷ 0 ∷ 0 ∷ 0 ∷ 1 ∷ 9 ∷ 0 ∷ 0 ∷ 0 ∷ 1 ∷ l

-- the items of the fourth are no arrays, not even where there are none
pub four-arrays : sheet_of (1 ∷ meta 97 28 (four (7 ∷ 0 ∷ 0 ∷ 0 ∷ 1 ∷ 1 ∷ [])))
    ≡ accepted (record { entries = meta_at 10 97 9 (an_array 9 (an_array 9 (an_array 9 (an_array 7 (a_scalar 7 1 ∷ []) ∷ []) ∷ []) ∷ [])) ∷ []; first = 33; tensors = [] }) 33
unfolding sheet_of entries_from tensors_from as_many_as and_then next metadata run ◌>>=◌ here number framed opening entry_body text text_of bytes value scalar scalar_width array item each
four-arrays = refl

pub fifth_array : sheet_of (1 ∷ meta 97 27 (four (9 ∷ 0 ∷ 0 ∷ 0 ∷ 0 ∷ []))) ≡ refused 31 1
unfolding sheet_of entries_from tensors_from as_many_as and_then next metadata run ◌>>=◌ here number framed opening entry_body text text_of bytes value scalar scalar_width array item each
fifth_array = refl

-- a bool of 2 and a type 13 in the fourth
pub fourth_bool : sheet_of (1 ∷ meta 97 28 (four (7 ∷ 0 ∷ 0 ∷ 0 ∷ 1 ∷ 2 ∷ []))) ≡ refused 31 1
unfolding sheet_of entries_from tensors_from as_many_as and_then next metadata run ◌>>=◌ here number framed opening entry_body text text_of bytes value scalar scalar_width array item each
fourth_bool = refl

pub fourth-type : sheet_of (1 ∷ meta 97 27 (four (13 ∷ 0 ∷ 0 ∷ 0 ∷ 0 ∷ []))) ≡ refused 31 1
unfolding sheet_of entries_from tensors_from as_many_as and_then next metadata run ◌>>=◌ here number framed opening entry_body text text_of bytes value scalar scalar_width array item each
fourth-type = refl

-- a bool of 2 in an array
pub bools : sheet_of (1 ∷ meta 97 14 (9 ∷ 7 ∷ 0 ∷ 0 ∷ 0 ∷ 2 ∷ 1 ∷ 2 ∷ [])) ≡ refused 31 1
unfolding sheet_of entries_from tensors_from as_many_as and_then next metadata run ◌>>=◌ here number framed opening entry_body text text_of bytes value scalar scalar_width array item each
bools = refl
