-- The text of a listing, as bytes: a line for the header, one for each distinct key in byte order,
-- one for each tensor; or one for a refusal.
use Rattle.std.specs.Prelude.{ℕ, Bool, List, [], ◌∷◌, ◌++◌, map, if◌then◌else◌}
use Rattle.reading.specs.Back.{bytes_of_all}
use Rattle.reading.specs.Ceilings.{under, full}
use Rattle.reading.specs.Reading.{Answer, accepted, refused, run}
use Rattle.values.specs.Rows.{entry_row}
use Rattle.tensors.specs.Rows.{tensor_row}
use Rattle.header.specs.declared.Header.{Header}
use Rattle.start.specs.declared.Rooms.{Rooms}
use Rattle.header.specs.Format.{FullHeader, header}
use Rattle.text_out.specs.Words.{labelled, line_end}
use Rattle.key_order.specs.Order.{name_in, ordered}
use Rattle.rows.specs.Columns.{type_in, kind_in, lengths_in, offset_in, size_in}

-- " "
abbrev pub space : List ℕ
space = 32 ∷ []

-- " BE" for a big-endian file, and else " LE"
abbrev pub order_word : Bool → List ℕ
order_word big = if big then 32 ∷ 66 ∷ 69 ∷ [] else 32 ∷ 76 ∷ 69 ∷ []

-- "gguf v", the version, the byte order
unfoldable pub version_text : Header → List ℕ
version_text h = labelled (103 ∷ 103 ∷ 117 ∷ 102 ∷ 32 ∷ 118 ∷ []) h.version ++ order_word h.big

-- all that, " kv ", the entries' count, " tensors ", the tensors' count
unfoldable pub format_text : Header → List ℕ
format_text h =
    version_text h
    ++ labelled (32 ∷ 107 ∷ 118 ∷ 32 ∷ []) h.entries
    ++ labelled (32 ∷ 116 ∷ 101 ∷ 110 ∷ 115 ∷ 111 ∷ 114 ∷ 115 ∷ 32 ∷ []) h.tensors

-- the first line: all that, " align ", the alignment, " data ", the start of the data
unfoldable pub head_line : Header → List ℕ
head_line h =
    format_text h
    ++ labelled (32 ∷ 97 ∷ 108 ∷ 105 ∷ 103 ∷ 110 ∷ 32 ∷ []) h.alignment
    ++ line_end (32 ∷ 100 ∷ 97 ∷ 116 ∷ 97 ∷ 32 ∷ []) h.start

-- the line of a key: "key ", the key, the type
unfoldable pub key_line : List ℕ → List ℕ → List ℕ
key_line s row = (107 ∷ 101 ∷ 121 ∷ 32 ∷ []) ++ name_in s row ++ line_end space (type_in row)

-- further lengths, each after an "x"
unfoldable pub further_text : List ℕ → List ℕ
further_text lengths = bytes_of_all (labelled (120 ∷ [])) lengths

-- a space, and the lengths joined by "x", or "-" where there are none
unfoldable pub lengths_text : List ℕ → List ℕ
lengths_text [] = 32 ∷ 45 ∷ []
lengths_text (n ∷ more) = labelled space n ++ further_text more

-- a tensor's name, kind and lengths
unfoldable pub shape_text : List ℕ → List ℕ → List ℕ
shape_text s row = name_in s row ++ labelled space (kind_in row) ++ lengths_text (lengths_in row)

-- the line of a tensor: all that, its offset, its size
unfoldable pub tensor_line : List ℕ → List ℕ → List ℕ
tensor_line s row = shape_text s row ++ labelled space (offset_in row) ++ line_end space (size_in row)

-- the line of a refusal: "refused ", its number, its place
unfoldable pub refusal_line : ℕ → ℕ → List ℕ
refusal_line n p = labelled (114 ∷ 101 ∷ 102 ∷ 117 ∷ 115 ∷ 101 ∷ 100 ∷ 32 ∷ []) n ++ line_end space p

-- all lines of a header: the first, one for each distinct key in byte order, one for each tensor
unfoldable pub lines_of : List ℕ → Header → List (List ℕ) → List (List ℕ) → List ℕ
lines_of s h entries tensors = head_line h ++ bytes_of_all (key_line s) (ordered s entries) ++ bytes_of_all (tensor_line s) tensors

-- the text of what a reader answers: all lines of the header, or the refusal's alone
unfoldable pub text_of : List ℕ → Answer FullHeader → List ℕ
text_of s (accepted w q) = lines_of s w.head (map entry_row w.entries) (map tensor_row w.tensors)
text_of s (refused n p) = refusal_line n p

-- the listing of a prefix by a reader with so many rows, and else with nothing above its ceilings
-- and a cap of 3
unfoldable pub listing_in : Rooms → List ℕ → List ℕ
listing_in rooms s = text_of s (run (under full (header rooms 3)) s 0)

-- the listing of a prefix: 512 rows in each table
unfoldable pub listing : List ℕ → List ℕ
listing s = listing_in (record { entries = 512; tensors = 512 }) s
