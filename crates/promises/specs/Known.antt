-- The known numbers, as one table: files and sheets byte by byte, and what the definitions say.
use Rattle.std.specs.Prelude.{ℕ, ◌+◌, ◌-◌, ◌^◌, ◌≡◌, List, [], ◌∷◌, ◌++◌, map, true, false, replicate, Ok, Err}
use Rattle.reading.specs.Reading.{Answer, accepted, refused, seen}
use Rattle.kinds.specs.Shape.{measure_of}
use Rattle.layout.specs.Layout.{Piece, laid_out_from, layout_of}
use Rattle.values.specs.declared.Dialect.{Dialect}
use Rattle.values.specs.declared.Value.TheVariants.{Array}
use Rattle.tensors.specs.declared.Tensor.{Tensor}
use Rattle.tensors.specs.Rows.{tensor_row}
use Rattle.header.specs.declared.Header.{Header}
use Rattle.header.specs.Format.{FullHeader}
use Rattle.reading.specs.Ceilings.{full}
use Rattle.header.specs.Answers.{reader_run}
use Rattle.reading.specs.Replies.{gives, refuses}
use Rattle.ranges.specs.Ranges.{check_from}
use Rattle.writer.specs.Output.{written_at}
use Rattle.promises.specs.Back.{answer_for, output_for}

-- Files.

-- version 3, no tensors, no entries
abbrev pub empty3 : List ℕ
empty3 = 0x47 ∷ 0x47 ∷ 0x55 ∷ 0x46 ∷ 3 ∷ 0 ∷ 0 ∷ 0 ∷ replicate 16 0

-- version 1
abbrev pub empty1 : List ℕ
empty1 = 0x47 ∷ 0x47 ∷ 0x55 ∷ 0x46 ∷ 1 ∷ 0 ∷ 0 ∷ 0 ∷ replicate 8 0

-- version 3, big-endian behind the same magic
abbrev pub empty_big : List ℕ
empty_big = 0x47 ∷ 0x47 ∷ 0x55 ∷ 0x46 ∷ 0 ∷ 0 ∷ 0 ∷ 3 ∷ replicate 16 0

-- the version v, big-endian with the magic turned round too, and n zeros
abbrev pub empty_turned : ℕ → ℕ → List ℕ
empty_turned v n = 0x46 ∷ 0x55 ∷ 0x47 ∷ 0x47 ∷ 0 ∷ 0 ∷ 0 ∷ v ∷ replicate n 0

-- the magic and version bytes that would be the version v, big-endian behind the same magic
abbrev pub start_big : ℕ → List ℕ
start_big v = 0x47 ∷ 0x47 ∷ 0x55 ∷ 0x46 ∷ 0 ∷ 0 ∷ 0 ∷ v ∷ []

-- version 3: a, of kind 0, with 5 numbers, at offset p; and b, of kind k, with 3 numbers, at offset q
abbrev pub two_in3 : ℕ → ℕ → ℕ → List ℕ
two_in3 p k q =
    0x47 ∷ 0x47 ∷ 0x55 ∷ 0x46 ∷ 3 ∷ 0 ∷ 0 ∷ 0 ∷ 2 ∷ 0 ∷ 0 ∷ 0 ∷ 0 ∷ 0 ∷ 0 ∷ 0 ∷ 0 ∷ 0 ∷ 0 ∷ 0 ∷ 0 ∷ 0 ∷ 0 ∷ 0 ∷
    1 ∷ 0 ∷ 0 ∷ 0 ∷ 0 ∷ 0 ∷ 0 ∷ 0 ∷ 97 ∷ 1 ∷ 0 ∷ 0 ∷ 0 ∷ 5 ∷ 0 ∷ 0 ∷ 0 ∷ 0 ∷ 0 ∷ 0 ∷ 0 ∷ 0 ∷ 0 ∷ 0 ∷ 0 ∷ p ∷ 0 ∷ 0 ∷ 0 ∷ 0 ∷ 0 ∷ 0 ∷ 0 ∷
    1 ∷ 0 ∷ 0 ∷ 0 ∷ 0 ∷ 0 ∷ 0 ∷ 0 ∷ 98 ∷ 1 ∷ 0 ∷ 0 ∷ 0 ∷ 3 ∷ 0 ∷ 0 ∷ 0 ∷ 0 ∷ 0 ∷ 0 ∷ 0 ∷ k ∷ 0 ∷ 0 ∷ 0 ∷ q ∷ 0 ∷ 0 ∷ 0 ∷ 0 ∷ 0 ∷ 0 ∷ 0 ∷ []

-- a at 0, and b, of kind 1, at 32
abbrev pub tensors3 : List ℕ
tensors3 = two_in3 0 1 32

-- version 3: the tensor a alone, at offset p, of the kind k, with these bytes of its shape
abbrev pub alone_in3 : ℕ → ℕ → List ℕ → List ℕ
alone_in3 p k shape =
    (0x47 ∷ 0x47 ∷ 0x55 ∷ 0x46 ∷ 3 ∷ 0 ∷ 0 ∷ 0 ∷ 1 ∷ 0 ∷ 0 ∷ 0 ∷ 0 ∷ 0 ∷ 0 ∷ 0 ∷ 0 ∷ 0 ∷ 0 ∷ 0 ∷ 0 ∷ 0 ∷ 0 ∷ 0 ∷
    1 ∷ 0 ∷ 0 ∷ 0 ∷ 0 ∷ 0 ∷ 0 ∷ 0 ∷ 97 ∷ shape) ++ (k ∷ 0 ∷ 0 ∷ 0 ∷ p ∷ 0 ∷ 0 ∷ 0 ∷ 0 ∷ 0 ∷ 0 ∷ 0 ∷ [])

-- the same at offset 0
abbrev pub alone3 : ℕ → List ℕ → List ℕ
alone3 k shape = alone_in3 0 k shape

-- the bytes of a shape of one length, low + 256 * high
abbrev pub short : ℕ → ℕ → List ℕ
short low high = 1 ∷ 0 ∷ 0 ∷ 0 ∷ low ∷ high ∷ 0 ∷ 0 ∷ 0 ∷ 0 ∷ 0 ∷ 0 ∷ []

-- of the three lengths 33, 2 ^ 32 and 2 ^ 32
abbrev pub long : List ℕ
long = 3 ∷ 0 ∷ 0 ∷ 0 ∷ 33 ∷ 0 ∷ 0 ∷ 0 ∷ 0 ∷ 0 ∷ 0 ∷ 0 ∷ 0 ∷ 0 ∷ 0 ∷ 0 ∷ 1 ∷ 0 ∷ 0 ∷ 0 ∷ 0 ∷ 0 ∷ 0 ∷ 0 ∷ 1 ∷ 0 ∷ 0 ∷ 0 ∷ []

-- version 3, no tensors, and one entry: general.alignment is the u32 64
abbrev pub aligned3 : List ℕ
aligned3 =
    0x47 ∷ 0x47 ∷ 0x55 ∷ 0x46 ∷ 3 ∷ 0 ∷ 0 ∷ 0 ∷ 0 ∷ 0 ∷ 0 ∷ 0 ∷ 0 ∷ 0 ∷ 0 ∷ 0 ∷ 1 ∷ 0 ∷ 0 ∷ 0 ∷ 0 ∷ 0 ∷ 0 ∷ 0 ∷
    17 ∷ 0 ∷ 0 ∷ 0 ∷ 0 ∷ 0 ∷ 0 ∷ 0 ∷ 103 ∷ 101 ∷ 110 ∷ 101 ∷ 114 ∷ 97 ∷ 108 ∷ 46 ∷ 97 ∷ 108 ∷ 105 ∷ 103 ∷ 110 ∷ 109 ∷ 101 ∷ 110 ∷ 116 ∷
    4 ∷ 0 ∷ 0 ∷ 0 ∷ 64 ∷ 0 ∷ 0 ∷ 0 ∷ []

-- version 3: two entries, k of the u8 7 and then general.alignment of the u32 64; and a, of kind 0,
-- with 5 numbers, at offset p
abbrev pub aligned_last3 : ℕ → List ℕ
aligned_last3 p =
    0x47 ∷ 0x47 ∷ 0x55 ∷ 0x46 ∷ 3 ∷ 0 ∷ 0 ∷ 0 ∷ 1 ∷ 0 ∷ 0 ∷ 0 ∷ 0 ∷ 0 ∷ 0 ∷ 0 ∷ 2 ∷ 0 ∷ 0 ∷ 0 ∷ 0 ∷ 0 ∷ 0 ∷ 0 ∷
    1 ∷ 0 ∷ 0 ∷ 0 ∷ 0 ∷ 0 ∷ 0 ∷ 0 ∷ 107 ∷ 0 ∷ 0 ∷ 0 ∷ 0 ∷ 7 ∷
    17 ∷ 0 ∷ 0 ∷ 0 ∷ 0 ∷ 0 ∷ 0 ∷ 0 ∷ 103 ∷ 101 ∷ 110 ∷ 101 ∷ 114 ∷ 97 ∷ 108 ∷ 46 ∷ 97 ∷ 108 ∷ 105 ∷ 103 ∷ 110 ∷ 109 ∷ 101 ∷ 110 ∷ 116 ∷
    4 ∷ 0 ∷ 0 ∷ 0 ∷ 64 ∷ 0 ∷ 0 ∷ 0 ∷
    1 ∷ 0 ∷ 0 ∷ 0 ∷ 0 ∷ 0 ∷ 0 ∷ 0 ∷ 97 ∷ 1 ∷ 0 ∷ 0 ∷ 0 ∷ 5 ∷ 0 ∷ 0 ∷ 0 ∷ 0 ∷ 0 ∷ 0 ∷ 0 ∷ 0 ∷ 0 ∷ 0 ∷ 0 ∷ p ∷ 0 ∷ 0 ∷ 0 ∷ 0 ∷ 0 ∷ 0 ∷ 0 ∷ []

-- a, at offset p, and b, at offset q, in version 1
abbrev pub two_in1 : ℕ → ℕ → List ℕ
two_in1 p q =
    0x47 ∷ 0x47 ∷ 0x55 ∷ 0x46 ∷ 1 ∷ 0 ∷ 0 ∷ 0 ∷ 2 ∷ 0 ∷ 0 ∷ 0 ∷ 0 ∷ 0 ∷ 0 ∷ 0 ∷
    1 ∷ 0 ∷ 0 ∷ 0 ∷ 97 ∷ 1 ∷ 0 ∷ 0 ∷ 0 ∷ 5 ∷ 0 ∷ 0 ∷ 0 ∷ 0 ∷ 0 ∷ 0 ∷ 0 ∷ 0 ∷ 0 ∷ 0 ∷ 0 ∷ p ∷ 0 ∷ 0 ∷ 0 ∷ 0 ∷ 0 ∷ 0 ∷ 0 ∷
    1 ∷ 0 ∷ 0 ∷ 0 ∷ 98 ∷ 1 ∷ 0 ∷ 0 ∷ 0 ∷ 3 ∷ 0 ∷ 0 ∷ 0 ∷ 0 ∷ 0 ∷ 0 ∷ 0 ∷ 1 ∷ 0 ∷ 0 ∷ 0 ∷ q ∷ 0 ∷ 0 ∷ 0 ∷ 0 ∷ 0 ∷ 0 ∷ 0 ∷ []

-- the same at 0 and 32
abbrev pub tensors1 : List ℕ
tensors1 = two_in1 0 32

-- the same in version 3, big-endian behind the same magic
abbrev pub tensors_big : List ℕ
tensors_big =
    0x47 ∷ 0x47 ∷ 0x55 ∷ 0x46 ∷ 0 ∷ 0 ∷ 0 ∷ 3 ∷ 0 ∷ 0 ∷ 0 ∷ 0 ∷ 0 ∷ 0 ∷ 0 ∷ 2 ∷ 0 ∷ 0 ∷ 0 ∷ 0 ∷ 0 ∷ 0 ∷ 0 ∷ 0 ∷
    0 ∷ 0 ∷ 0 ∷ 0 ∷ 0 ∷ 0 ∷ 0 ∷ 1 ∷ 97 ∷ 0 ∷ 0 ∷ 0 ∷ 1 ∷ 0 ∷ 0 ∷ 0 ∷ 0 ∷ 0 ∷ 0 ∷ 0 ∷ 5 ∷ 0 ∷ 0 ∷ 0 ∷ 0 ∷ 0 ∷ 0 ∷ 0 ∷ 0 ∷ 0 ∷ 0 ∷ 0 ∷ 0 ∷
    0 ∷ 0 ∷ 0 ∷ 0 ∷ 0 ∷ 0 ∷ 0 ∷ 1 ∷ 98 ∷ 0 ∷ 0 ∷ 0 ∷ 1 ∷ 0 ∷ 0 ∷ 0 ∷ 0 ∷ 0 ∷ 0 ∷ 0 ∷ 3 ∷ 0 ∷ 0 ∷ 0 ∷ 1 ∷ 0 ∷ 0 ∷ 0 ∷ 0 ∷ 0 ∷ 0 ∷ 0 ∷ 32 ∷ []

-- version 1, no tensors, and one entry: the key has these bytes behind its length, and its value is
-- the array of those bytes
abbrev pub array_under : List ℕ → List ℕ → List ℕ
array_under key array = (0x47 ∷ 0x47 ∷ 0x55 ∷ 0x46 ∷ 1 ∷ 0 ∷ 0 ∷ 0 ∷ 0 ∷ 0 ∷ 0 ∷ 0 ∷ 1 ∷ 0 ∷ 0 ∷ 0 ∷ key) ++ (9 ∷ 0 ∷ 0 ∷ 0 ∷ array)

-- the same under the key a
abbrev pub array_in1 : List ℕ → List ℕ
array_in1 array = array_under (1 ∷ 0 ∷ 0 ∷ 0 ∷ 97 ∷ []) array

-- under the key tokenizer.x
abbrev pub tokens_in1 : List ℕ → List ℕ
tokens_in1 array = array_under (11 ∷ 0 ∷ 0 ∷ 0 ∷ 116 ∷ 111 ∷ 107 ∷ 101 ∷ 110 ∷ 105 ∷ 122 ∷ 101 ∷ 114 ∷ 46 ∷ 120 ∷ []) array

-- what stands before the items of an array in version 1: its item type and its count
abbrev pub items1 : ℕ → ℕ → List ℕ
items1 t n = t ∷ 0 ∷ 0 ∷ 0 ∷ n ∷ 0 ∷ 0 ∷ 0 ∷ []

-- three arrays in one another, each of one item, and that of the third
abbrev pub in_three : List ℕ → List ℕ
in_three l = items1 9 1 ++ items1 9 1 ++ items1 9 1 ++ l

-- the lists 1, 2 and 3 of u8
abbrev pub lists : List ℕ
lists = items1 9 2 ++ items1 0 2 ++ (1 ∷ 2 ∷ []) ++ items1 0 1 ++ (3 ∷ [])

-- five lists of several types, with items and without
abbrev pub five_lists : List ℕ
five_lists = items1 9 5 ++ items1 0 0 ++ items1 0 2 ++ (1 ∷ 2 ∷ []) ++ items1 8 0 ++ items1 9 0 ++ items1 0 1 ++ (3 ∷ [])

-- version 3, no tensors, and one entry: the key a, whose value is an array of items of the type t;
-- the bytes of its count, and n zeros where its items stand
abbrev pub long_in3 : ℕ → List ℕ → ℕ → List ℕ
long_in3 t count n =
    (0x47 ∷ 0x47 ∷ 0x55 ∷ 0x46 ∷ 3 ∷ 0 ∷ 0 ∷ 0 ∷ 0 ∷ 0 ∷ 0 ∷ 0 ∷ 0 ∷ 0 ∷ 0 ∷ 0 ∷ 1 ∷ 0 ∷ 0 ∷ 0 ∷ 0 ∷ 0 ∷ 0 ∷ 0 ∷
    1 ∷ 0 ∷ 0 ∷ 0 ∷ 0 ∷ 0 ∷ 0 ∷ 0 ∷ 97 ∷ 9 ∷ 0 ∷ 0 ∷ 0 ∷ t ∷ 0 ∷ 0 ∷ 0 ∷ count) ++ replicate n 0

-- The record sheet of those two tensors: lengths, tags, names, kinds and shapes.
abbrev pub sheet_ab : List ℕ
sheet_ab =
    1 ∷
    0 ∷ 0 ∷ 0 ∷ 19 ∷ 2 ∷ 0 ∷ 0 ∷ 0 ∷ 1 ∷ 97 ∷ 0 ∷ 0 ∷ 0 ∷ 0 ∷ 1 ∷ 0 ∷ 0 ∷ 0 ∷ 0 ∷ 0 ∷ 0 ∷ 0 ∷ 5 ∷
    0 ∷ 0 ∷ 0 ∷ 19 ∷ 2 ∷ 0 ∷ 0 ∷ 0 ∷ 1 ∷ 98 ∷ 0 ∷ 0 ∷ 0 ∷ 1 ∷ 1 ∷ 0 ∷ 0 ∷ 0 ∷ 0 ∷ 0 ∷ 0 ∷ 0 ∷ 3 ∷ []

-- the sheet of the entry a, whose value is the lists
abbrev pub sheet_lists : List ℕ
sheet_lists =
    1 ∷
    0 ∷ 0 ∷ 0 ∷ 25 ∷ 1 ∷ 0 ∷ 0 ∷ 0 ∷ 1 ∷ 97 ∷ 9 ∷ 9 ∷ 0 ∷ 0 ∷ 0 ∷ 2 ∷
    0 ∷ 0 ∷ 0 ∷ 0 ∷ 2 ∷ 1 ∷ 2 ∷
    0 ∷ 0 ∷ 0 ∷ 0 ∷ 1 ∷ 3 ∷ []

-- the sheet of the entry a, whose value is three arrays in one another, the third of which has no
-- items, of the type 9
abbrev pub sheet_third : List ℕ
sheet_third = 1 ∷ 0 ∷ 0 ∷ 0 ∷ 22 ∷ 1 ∷ 0 ∷ 0 ∷ 0 ∷ 1 ∷ 97 ∷ 9 ∷ 9 ∷ 0 ∷ 0 ∷ 0 ∷ 1 ∷ 9 ∷ 0 ∷ 0 ∷ 0 ∷ 1 ∷ 9 ∷ 0 ∷ 0 ∷ 0 ∷ 0 ∷ []

-- four, the fourth of which has no items, of the type t
abbrev pub sheet_fourth : ℕ → List ℕ
sheet_fourth t = 1 ∷ 0 ∷ 0 ∷ 0 ∷ 27 ∷ 1 ∷ 0 ∷ 0 ∷ 0 ∷ 1 ∷ 97 ∷ 9 ∷ 9 ∷ 0 ∷ 0 ∷ 0 ∷ 1 ∷ 9 ∷ 0 ∷ 0 ∷ 0 ∷ 1 ∷ 9 ∷ 0 ∷ 0 ∷ 0 ∷ 1 ∷ t ∷ 0 ∷ 0 ∷ 0 ∷ 0 ∷ []

-- What is read of them.

-- little-endian, in the version v
abbrev pub little : ℕ → Dialect
little v = record { version = v; big = false; turned = false }

-- big-endian behind the same magic
abbrev pub big : ℕ → Dialect
big v = record { version = v; big = true; turned = false }

-- big-endian with the magic turned round too
abbrev pub big_turned : ℕ → Dialect
big_turned v = record { version = v; big = true; turned = true }

-- the header of a file with no entries and n tensors, that ends at e, with its data at d
abbrev pub head_in : Dialect → ℕ → ℕ → ℕ → Header
head_in k n e d = record { version = k.version; big = k.big; turned = k.turned; entries = 0; tensors = n; alignment = 32; end = e; start = d }

-- the same in the version v, little-endian
abbrev pub plain : ℕ → ℕ → ℕ → ℕ → Header
plain v n e d = head_in (little v) n e d

-- a tensor of one length: its name's place, kind, length, offset and size
abbrev pub flat : ℕ → ℕ → ℕ → ℕ → ℕ → Tensor
flat p k n o b = record {
  name = record { place = p; len = 1 };
  shape = record { dimensions = 1; first = n; second = 1; third = 1; fourth = 1 };
  kind = k;
  offset = o;
  parameters = n;
  size = b;
}

-- a and b where the file of version 3 has them
abbrev pub rows_ab : List (List ℕ)
rows_ab = map tensor_row (flat 32 0 5 0 20 ∷ flat 65 1 3 32 6 ∷ [])

-- the tensor a of kind 0 with no dimensions
abbrev pub scalar_a : Tensor
scalar_a = record {
  name = record { place = 32; len = 1 };
  shape = record { dimensions = 0; first = 1; second = 1; third = 1; fourth = 1 };
  kind = 0;
  offset = 0;
  parameters = 1;
  size = 4;
}

-- the answer for a file of version 3 with one tensor, that ends at e and has its data at 64
abbrev pub only : Tensor → ℕ → Answer FullHeader
only t e = accepted (record { head = plain 3 1 e 64; entries = []; tensors = t ∷ [] }) e

-- the answer for a file of version 1 whose only entry is an array, under the key of l bytes at 20: n
-- items that are arrays, of which m are kept; it ends at e and has its data at d
abbrev pub only_arrays : ℕ → ℕ → ℕ → ℕ → ℕ → Answer FullHeader
only_arrays l n m e d = accepted (record {
  head = record { version = 1; big = false; turned = false; entries = 1; tensors = 0; alignment = 32; end = e; start = d };
  entries = record { key = record { place = 20; len = l }; is_alignment = false; value = Array (record { item = 9; count = n; kept = m; first = 32 + l }) } ∷ [];
  tensors = [];
}) e

-- a tensor of one length that is to be laid
abbrev pub piece : ℕ → ℕ → Piece
piece n k = record { lengths = n ∷ 1 ∷ 1 ∷ 1 ∷ []; kind = k }

-- The table. What the writer is given has bytes 255, so that zeros are its own.
pub record Known : Type 0 where
  -- the empty file: 24 bytes and 16, and the data at 32
  pub empty-3 : reader_run full 0 [] [] empty3 ≡ accepted (record { head = plain 3 0 24 32; entries = []; tensors = [] }) 24
  pub empty-1 : reader_run full 0 [] [] empty1 ≡ accepted (record { head = plain 1 0 16 32; entries = []; tensors = [] }) 16
  -- a and b: sizes 20 and 6, offsets 0 and 32;
  -- the header ends at 90 and at 74, and the data is at 96
  pub two-3 : reader_run full 0 [] ([] ∷ [] ∷ []) tensors3 ≡ accepted (record { head = plain 3 2 90 96; entries = []; tensors = flat 32 0 5 0 20 ∷ flat 65 1 3 32 6 ∷ [] }) 90
  pub two-1 : reader_run full 0 [] ([] ∷ [] ∷ []) tensors1 ≡ accepted (record { head = plain 1 2 74 96; entries = []; tensors = flat 20 0 5 0 20 ∷ flat 49 1 3 32 6 ∷ [] }) 74
  -- the same, big-endian behind the same magic; a reader held to version 2 refuses it at its version,
  -- and versions 1 and 2 have no such form
  pub empty-big : reader_run full 0 [] [] empty_big ≡ accepted (record { head = head_in (big 3) 0 24 32; entries = []; tensors = [] }) 24
  pub two-big : reader_run full 0 [] ([] ∷ [] ∷ []) tensors_big ≡ accepted (record { head = head_in (big 3) 2 90 96; entries = []; tensors = flat 32 0 5 0 20 ∷ flat 65 1 3 32 6 ∷ [] }) 90
  pub two-big-held : reader_run (record { versions = 2; kinds = 39 }) 0 [] ([] ∷ [] ∷ []) tensors_big ≡ refused 5 4
  pub big-1 : reader_run full 0 [] [] (start_big 1) ≡ refused 4 4
  pub big-2 : reader_run full 0 [] [] (start_big 2) ≡ refused 4 4
  pub two-laid : layout_of 32 (piece 5 0 ∷ piece 3 1 ∷ []) ≡ laid_out_from (0 ∷ 32 ∷ []) (record { total = 8; next = 64 })
  -- a file of 134 bytes holds them, and one of 133 does not hold tensor 1
  pub file-134 : check_from 96 134 0 rows_ab ≡ gives tt
  pub file-133 : check_from 96 133 0 rows_ab ≡ refuses 20 1
  -- sizes: whole blocks of kinds 30, 39, 9 and 20
  pub kind-30 : measure_of (256 ∷ 1 ∷ 1 ∷ 1 ∷ []) 30 ≡ Ok (record { product = 256; size = 512 })
  pub kind-39 : measure_of (32 ∷ 1 ∷ 1 ∷ 1 ∷ []) 39 ≡ Ok (record { product = 32; size = 17 })
  pub kind-9 : measure_of (32 ∷ 1 ∷ 1 ∷ 1 ∷ []) 9 ≡ Ok (record { product = 32; size = 36 })
  pub kind-20 : measure_of (32 ∷ 1 ∷ 1 ∷ 1 ∷ []) 20 ≡ Ok (record { product = 32; size = 18 })
  -- kind 2 with 33 numbers and with no dimensions, in blocks of 32; kind 31, which takes no bytes
  pub kind_2 : measure_of (33 ∷ 1 ∷ 1 ∷ 1 ∷ []) 2 ≡ Err 17
  pub kind-2-alone : measure_of (1 ∷ 1 ∷ 1 ∷ 1 ∷ []) 2 ≡ Err 17
  pub kind-31 : measure_of (33 ∷ 1 ∷ 1 ∷ 1 ∷ []) 31 ≡ Ok (record { product = 33; size = 0 })
  -- kind 0 with no dimensions, with 2 ^ 62 numbers and with one fewer
  pub no_dimensions : measure_of (1 ∷ 1 ∷ 1 ∷ 1 ∷ []) 0 ≡ Ok (record { product = 1; size = 4 })
  pub too_long : measure_of (2 ^ 62 ∷ 1 ∷ 1 ∷ 1 ∷ []) 0 ≡ Err 14
  pub just_fits : measure_of ((2 ^ 62 - 1) ∷ 1 ∷ 1 ∷ 1 ∷ []) 0 ≡ Ok (record { product = 2 ^ 62 - 1; size = 2 ^ 64 - 4 })
  -- through the reader: a header of 256 numbers of kind 30. Its file has 576 bytes; cut in half it
  -- does not hold the tensor
  pub bf16_read : reader_run full 0 [] ([] ∷ []) (alone3 30 (short 0 1)) ≡ only (flat 32 30 256 0 512) 57
  pub bf16_whole : check_from 64 576 0 (tensor_row (flat 32 30 256 0 512) ∷ []) ≡ gives tt
  pub bf16_cut : check_from 64 288 0 (tensor_row (flat 32 30 256 0 512) ∷ []) ≡ refuses 20 0
  -- parts of a block are refused at the tensor's start, also where a product would not fit; no
  -- numbers are whole blocks, and kind 31 has no such test
  pub kind-2-read : reader_run full 0 [] ([] ∷ []) (alone3 2 (short 33 0)) ≡ refused 17 24
  pub kind-2-alone_read : reader_run full 0 [] ([] ∷ []) (alone3 2 (0 ∷ 0 ∷ 0 ∷ 0 ∷ [])) ≡ refused 17 24
  pub kind-2-long-read : reader_run full 0 [] ([] ∷ []) (alone3 2 long) ≡ refused 17 24
  pub kind-2-empty-read : reader_run full 0 [] ([] ∷ []) (alone3 2 (short 0 0)) ≡ only (flat 32 2 0 0 0) 57
  pub kind-31-read : reader_run full 0 [] ([] ∷ []) (alone3 31 (short 33 0)) ≡ only (flat 32 31 33 0 0) 57
  -- kind 0 with no dimensions, and its row; 2 ^ 62 numbers are refused at the tensor's start
  pub no_dimensions_read : reader_run full 0 [] ([] ∷ []) (alone3 0 (0 ∷ 0 ∷ 0 ∷ 0 ∷ [])) ≡ only scalar_a 49
  pub no_dimensions_row : tensor_row scalar_a ≡ 32 ∷ 1 ∷ 0 ∷ 0 ∷ 1 ∷ 1 ∷ 1 ∷ 1 ∷ 0 ∷ 4 ∷ []
  pub too_long-read : reader_run full 0 [] ([] ∷ []) (alone3 0 (1 ∷ 0 ∷ 0 ∷ 0 ∷ 0 ∷ 0 ∷ 0 ∷ 0 ∷ 0 ∷ 0 ∷ 0 ∷ 64 ∷ [])) ≡ refused 14 24
  pub just_fits-read : reader_run full 0 [] ([] ∷ []) (alone3 0 (1 ∷ 0 ∷ 0 ∷ 0 ∷ 255 ∷ 255 ∷ 255 ∷ 255 ∷ 255 ∷ 255 ∷ 255 ∷ 63 ∷ [])) ≡ only (flat 32 0 (2 ^ 62 - 1) 0 (2 ^ 64 - 4)) 57
  -- b at 33 is refused at its offset, in either version; where a is misaligned too, it is refused at
  -- a's, unless the kind of b is none; a tensor of no bytes is tested too
  pub misaligned-3 : reader_run full 0 [] ([] ∷ [] ∷ []) (two_in3 0 1 33) ≡ refused 16 82
  pub misaligned-1 : reader_run full 0 [] ([] ∷ [] ∷ []) (two_in1 0 33) ≡ refused 16 66
  pub misaligned-first : reader_run full 0 [] ([] ∷ [] ∷ []) (two_in3 1 1 33) ≡ refused 16 49
  pub misaligned_unknown : reader_run full 0 [] ([] ∷ [] ∷ []) (two_in3 1 40 32) ≡ refused 11 78
  pub misaligned-empty : reader_run full 0 [] ([] ∷ []) (alone_in3 8 0 (short 0 0)) ≡ refused 16 49
  -- an alignment of 64 that is the last entry decides: 32 is misaligned, and 64 is not
  pub misaligned-last : reader_run full 0 ([] ∷ [] ∷ []) ([] ∷ []) (aligned_last3 32) ≡ refused 16 96
  pub aligned-last : seen (λ w. w.head) (reader_run full 0 ([] ∷ [] ∷ []) ([] ∷ []) (aligned_last3 64))
      ≡ accepted (record { version = 3; big = false; turned = false; entries = 2; tensors = 1; alignment = 64; end = 104; start = 128 }) 104
  -- a list of two lists, of which the row tells the outer one; four arrays in one another, with items
  -- and without, whatever the item type; a fifth is refused at the item type of the fourth
  pub lists-read : reader_run full 0 ([] ∷ []) [] (array_in1 lists) ≡ only_arrays 1 2 2 52 64
  pub four-read : reader_run full 0 ([] ∷ []) [] (array_in1 (in_three (items1 0 2 ++ (5 ∷ 6 ∷ [])))) ≡ only_arrays 1 1 1 59 64
  pub fourth-empty-read : reader_run full 0 ([] ∷ []) [] (array_in1 (in_three (items1 9 0))) ≡ only_arrays 1 1 1 57 64
  pub fifth_read : reader_run full 0 ([] ∷ []) [] (array_in1 (in_three (items1 9 1 ++ items1 0 0))) ≡ refused 9 49
  -- a cut inside the third array, and a type above 12 in it, are refused at their places
  pub third-cut : reader_run full 0 ([] ∷ []) [] (array_in1 (items1 9 1 ++ items1 9 1 ++ items1 0 2 ++ (5 ∷ []))) ≡ refused 1 50
  pub third-type : reader_run full 0 ([] ∷ []) [] (array_in1 (items1 9 1 ++ items1 9 1 ++ items1 13 0)) ≡ refused 8 41
  -- of a tokenizer's lists a cap of 3 keeps three, and all are checked
  pub tokens_read : reader_run full 3 ([] ∷ []) [] (tokens_in1 five_lists) ≡ only_arrays 11 5 3 86 96
  -- of 23 bytes of items the first that is missing, where the count is one more than fits, 2 ^ 61 - 1,
  -- 2 ^ 61 and 2 ^ 64 - 1; and of 9 bytes in the fourth array, where it is 2 ^ 32 - 1
  pub long_u8 : reader_run full 0 ([] ∷ []) [] (long_in3 0 (24 ∷ replicate 7 0) 23) ≡ refused 1 72
  pub long_u16 : reader_run full 0 ([] ∷ []) [] (long_in3 2 (replicate 7 255 ++ (31 ∷ [])) 23) ≡ refused 1 71
  pub long_f32 : reader_run full 0 ([] ∷ []) [] (long_in3 6 (replicate 7 0 ++ (32 ∷ [])) 23) ≡ refused 1 69
  pub long_u64 : reader_run full 0 ([] ∷ []) [] (long_in3 10 (replicate 8 255) 23) ≡ refused 1 65
  pub long-inside : reader_run full 0 ([] ∷ []) [] (array_in1 (in_three (10 ∷ 0 ∷ 0 ∷ 0 ∷ replicate 4 255) ++ replicate 9 0)) ≡ refused 1 65
  -- a sheet of no bytes is refused, whatever the output
  pub no_sheet : (out : List ℕ) → answer_for (little 3) 32 [] out ≡ refuses 31 0
  -- the sheet of the byte 1: 24 bytes, then 8 zeros
  pub only-version : answer_for (little 3) 32 (1 ∷ []) (replicate 32 255) ≡ written_at 24 32
  pub then_zeros : output_for (little 3) 32 (1 ∷ []) (replicate 33 255) ≡ empty3 ++ replicate 8 0 ++ (255 ∷ [])
  -- the same in both big-endian forms; the one behind the same magic is there in version 3 alone,
  -- whatever the alignment, the sheet and the output
  pub then_zeros_big : output_for (big 3) 32 (1 ∷ []) (replicate 33 255) ≡ empty_big ++ replicate 8 0 ++ (255 ∷ [])
  pub big-30 : (a : ℕ) (s out : List ℕ) → (answer_for (big 1) a s out ≡ refuses 30 0) × (answer_for (big 2) a s out ≡ refuses 30 0)
  pub then_zeros_turned : output_for (big_turned 3) 32 (1 ∷ []) (replicate 33 255) ≡ empty_turned 3 16 ++ replicate 8 0 ++ (255 ∷ [])
  pub then_zeros_turned-2 : output_for (big_turned 2) 32 (1 ∷ []) (replicate 33 255) ≡ empty_turned 2 16 ++ replicate 8 0 ++ (255 ∷ [])
  pub then_zeros_turned-1 : output_for (big_turned 1) 32 (1 ∷ []) (replicate 33 255) ≡ empty_turned 1 8 ++ replicate 16 0 ++ (255 ∷ [])
  -- with alignment 64: 57 bytes, then 7 zeros
  pub alignment-64 : answer_for (little 3) 64 (1 ∷ []) (replicate 64 255) ≡ written_at 57 64
  pub output-64 : output_for (little 3) 64 (1 ∷ []) (replicate 65 255) ≡ aligned3 ++ replicate 7 0 ++ (255 ∷ [])
  -- the sheet of a and b becomes the files above
  pub written-3 : answer_for (little 3) 32 sheet_ab (replicate 96 255) ≡ written_at 90 96
  pub written-1 : answer_for (little 1) 32 sheet_ab (replicate 96 255) ≡ written_at 74 96
  pub output-3 : output_for (little 3) 32 sheet_ab (replicate 96 255) ≡ tensors3 ++ replicate 6 0
  pub output-1 : output_for (little 1) 32 sheet_ab (replicate 96 255) ≡ tensors1 ++ replicate 22 0
  pub output-big : output_for (big 3) 32 sheet_ab (replicate 96 255) ≡ tensors_big ++ replicate 6 0
  -- the sheet of the lists becomes the file above; an item type of arrays stands in the third array
  -- without items, and in the fourth it is bad
  pub output-lists : output_for (little 1) 32 sheet_lists (replicate 64 255) ≡ array_in1 lists ++ replicate 12 0
  pub written-lists : answer_for (little 3) 32 sheet_lists (replicate 96 255) ≡ written_at 76 96
  pub output-third : output_for (little 1) 32 sheet_third (replicate 64 255) ≡ array_in1 (items1 9 1 ++ items1 9 1 ++ items1 9 0) ++ replicate 15 0
  pub output-fourth : output_for (little 1) 32 (sheet_fourth 0) (replicate 64 255) ≡ array_in1 (in_three (items1 0 0)) ++ replicate 7 0
  pub bad-fourth : (out : List ℕ) → answer_for (little 3) 32 (sheet_fourth 9) out ≡ refuses 31 1
