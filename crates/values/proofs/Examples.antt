-- Worked entries, computed by the checker. Assumes nothing.
use Prim.Native.Nat.{ℕ}
use mathlib.Core.Path.{◌≡◌, refl}
use mathlib.Core.List.{List, [], ◌∷◌, ◌++◌}
use mathlib.Core.Bool.{true, false}
use lib.ListN.{take}
use Rattle.reading.specs.Each.{each}
use Rattle.reading.specs.Reading.{accepted, refused, run, here, ◌>>=◌}
use Rattle.values.specs.Format.{value, size, text_looking, text, key, type, value_of, array, entry}
use Rattle.scalars.specs.Scalars.{scalar_width}
use Rattle.fields.specs.Value.{number}
use Rattle.values.specs.declared.Dialect.{Dialect}
use Rattle.scalars.specs.declared.Scalar.TheVariants.{U32}
use Rattle.values.specs.declared.Value.TheVariants.{Single, Array}

-- a version 3 file, and a big-endian one of version 1
abbrev three : Dialect
three = record { version = 3; big = false; turned = false }

abbrev one-big : Dialect
one-big = record { version = 1; big = true; turned = true }

-- "a" is the u32 7
abbrev a-is-seven : List ℕ
a-is-seven = 1 ∷ 0 ∷ 0 ∷ 0 ∷ 0 ∷ 0 ∷ 0 ∷ 0 ∷ 97 ∷ 4 ∷ 0 ∷ 0 ∷ 0 ∷ 7 ∷ 0 ∷ 0 ∷ 0 ∷ []

pub an_entry : run (entry three 3) a-is-seven 0 ≡ accepted (record { key = record { place = 8; len = 1 }; is_alignment = false; value = Single (U32 7) }) 17
unfolding run ◌>>=◌ here each number size text_looking key type scalar_width text value_of array value entry
an_entry = refl

-- the same without its last byte: the value is missing, at its start
pub an_entry-cut : run (entry three 3) (take 16 a-is-seven) 0 ≡ refused 1 13
unfolding run ◌>>=◌ here each number size text_looking key type scalar_width text value_of array value entry
an_entry-cut = refl

-- "tokenizer.x" is five bytes, of which a cap of 3 keeps three: all five are passed
abbrev five_tokens : List ℕ
five_tokens =
    0 ∷ 0 ∷ 0 ∷ 11 ∷ 116 ∷ 111 ∷ 107 ∷ 101 ∷ 110 ∷ 105 ∷ 122 ∷ 101 ∷ 114 ∷ 46 ∷ 120 ∷ 0 ∷ 0 ∷ 0 ∷ 9 ∷ 0 ∷ 0 ∷ 0 ∷ 0 ∷ 0 ∷ 0 ∷ 0 ∷ 5 ∷ 10 ∷ 20 ∷ 30 ∷ 40 ∷ 50 ∷ []

pub a_capped_array : run (entry one-big 3) five_tokens 0 ≡ accepted (record {
  key = record { place = 4; len = 11 };
  is_alignment = false;
  value = Array (record { item = 0; count = 5; kept = 3; first = 27 });
}) 32
unfolding run ◌>>=◌ here each number size text_looking key type scalar_width text value_of array value entry
a_capped_array = refl

-- the fifth item is checked like the others: without it the array is refused, at that item
pub a_capped_array-cut : run (entry one-big 3) (take 31 five_tokens) 0 ≡ refused 1 31
unfolding run ◌>>=◌ here each number size text_looking key type scalar_width text value_of array value entry
a_capped_array-cut = refl

-- arrays in one another. In version 3, little-endian: a list of two lists of u8, of 5 and 6, and
-- of 7
abbrev two-lists : List ℕ
two-lists =
    9 ∷ 0 ∷ 0 ∷ 0 ∷ 9 ∷ 0 ∷ 0 ∷ 0 ∷ 2 ∷ 0 ∷ 0 ∷ 0 ∷ 0 ∷ 0 ∷ 0 ∷ 0 ∷
    0 ∷ 0 ∷ 0 ∷ 0 ∷ 2 ∷ 0 ∷ 0 ∷ 0 ∷ 0 ∷ 0 ∷ 0 ∷ 0 ∷ 5 ∷ 6 ∷
    0 ∷ 0 ∷ 0 ∷ 0 ∷ 1 ∷ 0 ∷ 0 ∷ 0 ∷ 0 ∷ 0 ∷ 0 ∷ 0 ∷ 7 ∷ []

-- the outer list is told, with its two items, and the place after is that after the last u8
pub a-list_of_lists : run (value three) two-lists 0 ≡ accepted (Array (record { item = 9; count = 2; kept = 2; first = 16 })) 43
unfolding run ◌>>=◌ here each number size text_looking type scalar_width text value_of array value
a-list_of_lists = refl

-- in a big-endian file of version 1: the type of a value that is an array, and what stands before
-- n items of the type t, where both are below 256
abbrev of_arrays : List ℕ
of_arrays = 0 ∷ 0 ∷ 0 ∷ 9 ∷ []

abbrev items : ℕ → ℕ → List ℕ
items t n = 0 ∷ 0 ∷ 0 ∷ t ∷ 0 ∷ 0 ∷ 0 ∷ n ∷ []

-- three arrays in one another, each the only item of the one around it
abbrev three_deep : List ℕ
three_deep = of_arrays ++ items 9 1 ++ items 9 1 ++ items 9 1

-- the fourth may have items
pub four_deep : run (value one-big) (three_deep ++ items 0 2 ++ (5 ∷ 6 ∷ [])) 0 ≡ accepted (Array (record { item = 9; count = 1; kept = 1; first = 12 })) 38
unfolding run ◌>>=◌ here each number size text_looking type scalar_width text value_of array value
four_deep = refl

-- it may be an array of no arrays
pub four_deep_of_none : run (value one-big) (three_deep ++ items 9 0) 0 ≡ accepted (Array (record { item = 9; count = 1; kept = 1; first = 12 })) 36
unfolding run ◌>>=◌ here each number size text_looking type scalar_width text value_of array value
four_deep_of_none = refl

-- of one array it is refused, at its own item type
pub five_deep : run (value one-big) (three_deep ++ items 9 1 ++ items 0 2 ++ (5 ∷ 6 ∷ [])) 0 ≡ refused 9 28
unfolding run ◌>>=◌ here each number size text_looking type scalar_width text value_of array value
five_deep = refl

-- a cut inside the third array, whose count stands at 24: the count is missing
pub three_deep_cut : run (value one-big) (take 26 three_deep) 0 ≡ refused 1 24
unfolding run ◌>>=◌ here each number size text_looking type scalar_width text value_of array value
three_deep_cut = refl

-- an inner array of items of type 13: refused at that type
pub an_unknown_type-inside : run (value one-big) (of_arrays ++ items 9 1 ++ items 13 0) 0 ≡ refused 8 12
unfolding run ◌>>=◌ here each number size text_looking type scalar_width text value_of array value
an_unknown_type-inside = refl

-- an inner array of one text, of 2 ^ 30 + 1 bytes: refused at the size of the text
pub a-long-text-inside : run (value one-big) (of_arrays ++ items 9 1 ++ items 8 1 ++ (64 ∷ 0 ∷ 0 ∷ 1 ∷ [])) 0 ≡ refused 7 20
unfolding run ◌>>=◌ here each number size text_looking type scalar_width text value_of array value
a-long-text-inside = refl

-- "tokenizer.x" is five lists, of which a cap of 3 keeps three: no u8, two u8, no text, one u8 and
-- one u16. All five are passed, with what is in them
abbrev five-lists : List ℕ
five-lists =
    0 ∷ 0 ∷ 0 ∷ 11 ∷ 116 ∷ 111 ∷ 107 ∷ 101 ∷ 110 ∷ 105 ∷ 122 ∷ 101 ∷ 114 ∷ 46 ∷ 120 ∷ (of_arrays ++ items 9 5 ++
    items 0 0 ++ items 0 2 ++ (10 ∷ 20 ∷ []) ++ items 8 0 ++ items 0 1 ++ (30 ∷ []) ++ items 2 1 ++ (0 ∷ 40 ∷ []))

pub a_capped_list_of_lists : run (entry one-big 3) five-lists 0 ≡ accepted (record {
  key = record { place = 4; len = 11 };
  is_alignment = false;
  value = Array (record { item = 9; count = 5; kept = 3; first = 27 });
}) 72
unfolding run ◌>>=◌ here each number size text_looking key type scalar_width text value_of array value entry
a_capped_list_of_lists = refl

-- and so the u16 in the fifth of them is missed where it is cut
pub a_capped_list_of_lists-cut : run (entry one-big 3) (take 71 five-lists) 0 ≡ refused 1 70
unfolding run ◌>>=◌ here each number size text_looking key type scalar_width text value_of array value entry
a_capped_list_of_lists-cut = refl

-- a text of 2 ^ 30 + 1 bytes is too long, and one of 2 ^ 30 is not there
pub a-long-text : run (text one-big) (64 ∷ 0 ∷ 0 ∷ 1 ∷ []) 0 ≡ refused 7 0
unfolding run ◌>>=◌ here number size text_looking text
a-long-text = refl

pub a-missing-text : run (text one-big) (64 ∷ 0 ∷ 0 ∷ 0 ∷ []) 0 ≡ refused 1 4
unfolding run ◌>>=◌ here number size text_looking text
a-missing-text = refl
