-- What stands in which word of a row, by name. An entry's key and a tensor's name begin both rows.
use Rattle.std.specs.Prelude.{ℕ, List, [], ◌∷◌, take, get_or}

-- the word k of a row
abbrev pub word : ℕ → List ℕ → ℕ
word k row = get_or row k 0

-- the place of an entry's key, or of a tensor's name
abbrev pub place_in : List ℕ → ℕ
place_in row = word 0 row

-- its length
abbrev pub length_in : List ℕ → ℕ
length_in row = word 1 row

-- the type of an entry's value
abbrev pub type_in : List ℕ → ℕ
type_in row = word 2 row

-- its value: a scalar
abbrev pub scalar_in : List ℕ → ℕ
scalar_in row = word 3 row

-- or a string's place
abbrev pub string_place_in : List ℕ → ℕ
string_place_in row = word 3 row

-- its length
abbrev pub string_length_in : List ℕ → ℕ
string_length_in row = word 4 row

-- or an array's item type
abbrev pub item_type_in : List ℕ → ℕ
item_type_in row = word 3 row

-- how many items it has
abbrev pub count_in : List ℕ → ℕ
count_in row = word 4 row

-- how many of them are kept
abbrev pub kept_in : List ℕ → ℕ
kept_in row = word 5 row

-- the place of the first
abbrev pub first_item_in : List ℕ → ℕ
first_item_in row = word 6 row

-- a tensor's kind
abbrev pub kind_in : List ℕ → ℕ
kind_in row = word 2 row

-- its stated count of dimensions
abbrev pub dimensions_in : List ℕ → ℕ
dimensions_in row = word 3 row

-- its first length
abbrev pub first_length_in : List ℕ → ℕ
first_length_in row = word 4 row

-- its second length
abbrev pub second_length_in : List ℕ → ℕ
second_length_in row = word 5 row

-- its third length
abbrev pub third_length_in : List ℕ → ℕ
third_length_in row = word 6 row

-- its fourth length
abbrev pub fourth_length_in : List ℕ → ℕ
fourth_length_in row = word 7 row

-- as many of the four as are stated
abbrev pub lengths_in : List ℕ → List ℕ
lengths_in row = take (dimensions_in row) (first_length_in row ∷ second_length_in row ∷ third_length_in row ∷ fourth_length_in row ∷ [])

-- the offset of its data from the data's start
abbrev pub offset_in : List ℕ → ℕ
offset_in row = word 8 row

-- the size of its data in bytes
abbrev pub size_in : List ℕ → ℕ
size_in row = word 9 row
