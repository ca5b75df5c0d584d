-- Worked files: two empty ones, and two tensors in the newest and the oldest version, computed by
-- the checker. Assumes nothing.
use Prim.Native.Nat.{ℕ}
use mathlib.Core.Path.{◌≡◌, refl}
use mathlib.Core.List.{List, [], ◌∷◌, ◌++◌}
use mathlib.Core.Bool.{true, false}
use native.Mathlib.Omega.{arith}
use lib.ListN.{take, replicate}
use Rattle.fields.specs.Bytes.{little, bytes_of, Within}
use Rattle.reading.specs.Back.{bytes_of_all}
use Rattle.reading.specs.Ceilings.{under, full}
use Rattle.reading.specs.Each.{each, check_each}
use Rattle.reading.specs.Reading.{accepted, refused, run, here, seen, ◌>>=◌}
use Rattle.fields.specs.Value.{number}
use Rattle.header.specs.Answers.{Outcome, reader_run, reader_outcome}
use Rattle.kinds.specs.Table.{block_of}
use Rattle.tensors.specs.Contents.{TensorContent, length_bytes, shape_bytes, kind_and_offset_bytes, tensor_bytes, FitsLength, FitsShape, content_of}
use Rattle.values.specs.Contents.{size_bytes, text_bytes, type_bytes}
use Rattle.values.specs.Format.{value, size, text_looking, text, alignment_key, key, type, value_of, entry}
use Rattle.scalars.specs.Scalars.{scalar_width}
use Rattle.tensors.specs.Rows.{tensor_row}
use Rattle.tensors.specs.Format.{length_at, lengths_of, shape, kind_and_offset, tensor}
use Rattle.header.specs.Contents.{Contents, header_bytes, summary_in, FitsContents}
use Rattle.start.specs.Contents.{start_bytes}
use Rattle.start.specs.Format.{magic, version, counts, start}
use Rattle.header.specs.Format.{header}
use Rattle.header.proofs.HeaderBack.{reader_back}
use Rattle.header.specs.declared.Header.{Header}
use Rattle.tensors.specs.declared.Tensor.{Tensor}
use Rattle.scalars.specs.declared.Scalar.TheVariants.{U32}
use Rattle.values.specs.declared.Value.TheVariants.{Single}

-- version 3, no tensors, no entries
abbrev empty3 : List ℕ
empty3 = 71 ∷ 71 ∷ 85 ∷ 70 ∷ 3 ∷ 0 ∷ 0 ∷ 0 ∷ 0 ∷ 0 ∷ 0 ∷ 0 ∷ 0 ∷ 0 ∷ 0 ∷ 0 ∷ 0 ∷ 0 ∷ 0 ∷ 0 ∷ 0 ∷ 0 ∷ 0 ∷ 0 ∷ []

-- version 1, in which a size takes four bytes
abbrev empty1 : List ℕ
empty1 = 71 ∷ 71 ∷ 85 ∷ 70 ∷ 1 ∷ 0 ∷ 0 ∷ 0 ∷ 0 ∷ 0 ∷ 0 ∷ 0 ∷ 0 ∷ 0 ∷ 0 ∷ 0 ∷ []

-- version 3: a, of kind 0, with 5 numbers, at offset 0; and b, of kind 1, with 3 numbers, at offset
-- 32
abbrev tensors3 : List ℕ
tensors3 =
    71 ∷ 71 ∷ 85 ∷ 70 ∷ 3 ∷ 0 ∷ 0 ∷ 0 ∷ 2 ∷ 0 ∷ 0 ∷ 0 ∷ 0 ∷ 0 ∷ 0 ∷ 0 ∷ 0 ∷ 0 ∷ 0 ∷ 0 ∷ 0 ∷ 0 ∷ 0 ∷ 0 ∷
    1 ∷ 0 ∷ 0 ∷ 0 ∷ 0 ∷ 0 ∷ 0 ∷ 0 ∷ 97 ∷ 1 ∷ 0 ∷ 0 ∷ 0 ∷ 5 ∷ 0 ∷ 0 ∷ 0 ∷ 0 ∷ 0 ∷ 0 ∷ 0 ∷ 0 ∷ 0 ∷ 0 ∷ 0 ∷ 0 ∷ 0 ∷ 0 ∷ 0 ∷ 0 ∷ 0 ∷ 0 ∷ 0 ∷
    1 ∷ 0 ∷ 0 ∷ 0 ∷ 0 ∷ 0 ∷ 0 ∷ 0 ∷ 98 ∷ 1 ∷ 0 ∷ 0 ∷ 0 ∷ 3 ∷ 0 ∷ 0 ∷ 0 ∷ 0 ∷ 0 ∷ 0 ∷ 0 ∷ 1 ∷ 0 ∷ 0 ∷ 0 ∷ 32 ∷ 0 ∷ 0 ∷ 0 ∷ 0 ∷ 0 ∷ 0 ∷ 0 ∷ []

-- the same two in version 1
abbrev tensors1 : List ℕ
tensors1 =
    71 ∷ 71 ∷ 85 ∷ 70 ∷ 1 ∷ 0 ∷ 0 ∷ 0 ∷ 2 ∷ 0 ∷ 0 ∷ 0 ∷ 0 ∷ 0 ∷ 0 ∷ 0 ∷
    1 ∷ 0 ∷ 0 ∷ 0 ∷ 97 ∷ 1 ∷ 0 ∷ 0 ∷ 0 ∷ 5 ∷ 0 ∷ 0 ∷ 0 ∷ 0 ∷ 0 ∷ 0 ∷ 0 ∷ 0 ∷ 0 ∷ 0 ∷ 0 ∷ 0 ∷ 0 ∷ 0 ∷ 0 ∷ 0 ∷ 0 ∷ 0 ∷ 0 ∷
    1 ∷ 0 ∷ 0 ∷ 0 ∷ 98 ∷ 1 ∷ 0 ∷ 0 ∷ 0 ∷ 3 ∷ 0 ∷ 0 ∷ 0 ∷ 0 ∷ 0 ∷ 0 ∷ 0 ∷ 1 ∷ 0 ∷ 0 ∷ 0 ∷ 32 ∷ 0 ∷ 0 ∷ 0 ∷ 0 ∷ 0 ∷ 0 ∷ 0 ∷ []

-- the header of a file of version v with no entries and n tensors, that ends at e, with its data at
-- d
abbrev plain : ℕ → ℕ → ℕ → ℕ → Header
plain v n e d = record { version = v; big = false; turned = false; entries = 0; tensors = n; alignment = 32; end = e; start = d }

-- a tensor of one length: its name's place, kind, length, offset and size
abbrev flat : ℕ → ℕ → ℕ → ℕ → ℕ → Tensor
flat p k n o b = record {
  name = record { place = p; len = 1 };
  shape = record { dimensions = 1; first = n; second = 1; third = 1; fourth = 1 };
  kind = k;
  offset = o;
  parameters = n;
  size = b;
}

-- 24 bytes, and the data after 32
pub no_records : reader_run full 0 [] [] empty3 ≡ accepted (record { head = plain 3 0 24 32; entries = []; tensors = [] }) 24
unfolding run under each header check_each magic version start counts size number here ◌>>=◌
no_records = refl

-- 16 bytes, and the data after 32
pub no_records-1 : reader_run full 0 [] [] empty1 ≡ accepted (record { head = plain 1 0 16 32; entries = []; tensors = [] }) 16
unfolding run under each header check_each magic version start counts size number here ◌>>=◌
no_records-1 = refl

-- 90 bytes, and the data after 96: 20 bytes and 6
pub two-tensors : reader_run full 0 [] ([] ∷ [] ∷ []) tensors3 ≡ accepted (record { head = plain 3 2 90 96; entries = []; tensors = flat 32 0 5 0 20 ∷ flat 65 1 3 32 6 ∷ [] }) 90
unfolding run under each header check_each magic version start counts size number here ◌>>=◌ tensor text text_looking shape lengths_of length_at kind_and_offset block_of
two-tensors = refl

-- 74 bytes, and the data after 96: 20 bytes and 6
pub two-tensors-1 : reader_run full 0 [] ([] ∷ [] ∷ []) tensors1 ≡ accepted (record { head = plain 1 2 74 96; entries = []; tensors = flat 20 0 5 0 20 ∷ flat 49 1 3 32 6 ∷ [] }) 74
unfolding run under each header check_each magic version start counts size number here ◌>>=◌ tensor text text_looking shape lengths_of length_at kind_and_offset block_of
two-tensors-1 = refl

-- one row is too few, and the place is that of the count
pub one_row : reader_run full 0 [] ([] ∷ []) tensors3 ≡ refused 6 8
unfolding run under each header check_each magic version start counts size number here ◌>>=◌
one_row = refl

-- a byte less, and the last offset is not wholly there
pub a-byte-less : reader_run full 0 [] ([] ∷ [] ∷ []) (take 89 tensors3) ≡ refused 1 82
unfolding run under each header check_each magic version start counts size number here ◌>>=◌ tensor text text_looking shape lengths_of length_at kind_and_offset block_of
a-byte-less = refl

-- What more bytes change, of a and b in version 3, with three rows for tensors that hold zeros.

abbrev unused : List ℕ
unused = replicate 10 0

-- what a refusal comes to
abbrev nothing_read : ℕ → ℕ → Outcome
nothing_read n p = record { answer = refused n p; entries = []; tensors = replicate 3 unused }

-- what their header comes to: a row each for a and b, and the third as it was
abbrev both_ab : Outcome
both_ab = record { answer = accepted (plain 3 2 90 96) 90; entries = []; tensors = tensor_row (flat 32 0 5 0 20) ∷ tensor_row (flat 65 1 3 32 6) ∷ unused ∷ [] }

-- all but the last byte of the header
pub header-cut_off : reader_outcome full 3 [] (replicate 3 unused) (take 89 tensors3) ≡ nothing_read 1 82
unfolding run seen under each header check_each magic version start counts size number here ◌>>=◌ tensor text text_looking shape lengths_of length_at kind_and_offset block_of
header-cut_off = refl

-- the 90 bytes of the header
pub header_alone : reader_outcome full 3 [] (replicate 3 unused) tensors3 ≡ both_ab
unfolding run seen under each header check_each magic version start counts size number here ◌>>=◌ tensor text text_looking shape lengths_of length_at kind_and_offset block_of
header_alone = refl

-- the whole file: the gap of 6 bytes before the data, and 38 bytes of data
pub header-and_data : reader_outcome full 3 [] (replicate 3 unused) (tensors3 ++ replicate 6 0 ++ replicate 38 255) ≡ both_ab
unfolding run seen under each header check_each magic version start counts size number here ◌>>=◌ tensor text text_looking shape lengths_of length_at kind_and_offset block_of
header-and_data = refl

-- eight bytes are enough to refuse version 4, and more of them say the same
pub version-4 : reader_outcome full 3 [] (replicate 3 unused) (71 ∷ 71 ∷ 85 ∷ 70 ∷ 4 ∷ 0 ∷ 0 ∷ 0 ∷ []) ≡ nothing_read 4 4
unfolding run seen under header magic version start number here ◌>>=◌
version-4 = refl

pub version-4-and-more : reader_outcome full 3 [] (replicate 3 unused) (71 ∷ 71 ∷ 85 ∷ 70 ∷ 4 ∷ replicate 100 0) ≡ nothing_read 4 4
unfolding run seen under header magic version start number here ◌>>=◌
version-4-and-more = refl

-- big-endian with the magic turned round too, version 3, no records
pub big-end : reader_run full 0 [] [] (70 ∷ 85 ∷ 71 ∷ 71 ∷ 0 ∷ 0 ∷ 0 ∷ 3 ∷ 0 ∷ 0 ∷ 0 ∷ 0 ∷ 0 ∷ 0 ∷ 0 ∷ 0 ∷ 0 ∷ 0 ∷ 0 ∷ 0 ∷ 0 ∷ 0 ∷ 0 ∷ 0 ∷ [])
    ≡ accepted (record { head = record { version = 3; big = true; turned = true; entries = 0; tensors = 0; alignment = 32; end = 24; start = 32 }; entries = []; tensors = [] }) 24
unfolding run under each header check_each magic version start counts size number here ◌>>=◌
big-end = refl

-- version 3 with one entry: "general.alignment", of type u32, is 64
pub own-alignment : reader_run full 0 ([] ∷ []) []
    ((71 ∷ 71 ∷ 85 ∷ 70 ∷ 3 ∷ 0 ∷ 0 ∷ 0 ∷ 0 ∷ 0 ∷ 0 ∷ 0 ∷ 0 ∷ 0 ∷ 0 ∷ 0 ∷ 1 ∷ 0 ∷ 0 ∷ 0 ∷ 0 ∷ 0 ∷ 0 ∷ 0 ∷ 17 ∷ 0 ∷ 0 ∷ 0 ∷ 0 ∷ 0 ∷ 0 ∷ 0 ∷ []) ++
    (alignment_key ++ (4 ∷ 0 ∷ 0 ∷ 0 ∷ 64 ∷ 0 ∷ 0 ∷ 0 ∷ [])))
    ≡ accepted (record {
      head = record { version = 3; big = false; turned = false; entries = 1; tensors = 0; alignment = 64; end = 57; start = 64 };
      entries = record { key = record { place = 32; len = 17 }; is_alignment = true; value = Single (U32 64) } ∷ [];
      tensors = [];
    }) 57
unfolding run under each header check_each magic version start counts size number here ◌>>=◌ entry key text_looking value type value_of scalar_width
own-alignment = refl

-- The two tensors as a sheet.

abbrev weight : ℕ → ℕ → ℕ → ℕ → TensorContent
weight name k n o = content_of (name ∷ []) (record { dimensions = 1; first = n; second = 1; third = 1; fourth = 1 }) k o

abbrev two : Contents
two = record { entries = []; tensors = weight 97 0 5 0 ∷ weight 98 1 3 32 ∷ [] }

-- their bytes are those of the file, in both versions
pub written3 : header_bytes (record { version = 3; big = false; turned = false }) two ≡ tensors3
unfolding header_bytes start_bytes size_bytes text_bytes tensor_bytes shape_bytes length_bytes kind_and_offset_bytes type_bytes bytes_of little bytes_of_all
written3 = refl

pub written1 : header_bytes (record { version = 1; big = false; turned = false }) two ≡ tensors1
unfolding header_bytes start_bytes size_bytes text_bytes tensor_bytes shape_bytes length_bytes kind_and_offset_bytes type_bytes bytes_of little bytes_of_all
written1 = refl

-- and they can be written, so that they read back from there
fits-shape : (n : ℕ) → Within 8 n → FitsShape (record { dimensions = 1; first = n; second = 1; third = 1; fourth = 1 })
fits-shape n h =
    let one : (i : ℕ) → FitsLength 1 i 1 = λ i. record { within = omega arith; beyond = λ e. refl } in
    record { few = omega arith; first = record { within = h; beyond = λ e. absurd (omega arith) }; second = one 1; third = one 2; fourth = one 3 }

pub fits-two : FitsContents (record { entries = 0; tensors = 2 }) (record { version = 3; big = false; turned = false }) two
unfolding block_of header_bytes start_bytes size_bytes text_bytes tensor_bytes shape_bytes length_bytes kind_and_offset_bytes type_bytes bytes_of little bytes_of_all
fits-two = record {
  known = refl;
  entry_count = omega arith;
  tensor_count = omega arith;
  entry_room = omega arith;
  tensor_room = omega arith;
  entries = tt;
  tensors = (
    record { name = omega arith; shape = fits-shape 5 (omega arith); kind = omega arith; offset = omega arith; known = refl; whole = refl; products = refl; size = refl; measured = refl; total = omega arith },
    (record { name = omega arith; shape = fits-shape 3 (omega arith); kind = omega arith; offset = omega arith; known = refl; whole = refl; products = refl; size = refl; measured = refl; total = omega arith }, tt),
  );
  start = omega arith;
  aligned = (refl, (refl, tt));
}

pub two_back : (r : List ℕ) → seen (summary_in (tensors3 ++ r)) (reader_run full 0 [] ([] ∷ [] ∷ []) (tensors3 ++ r))
    ≡ accepted (record { dialect = record { version = 3; big = false; turned = false }; contents = two; alignment = 32; end = 90; start = 96 }) 90
unfolding header_bytes start_bytes size_bytes text_bytes tensor_bytes shape_bytes length_bytes kind_and_offset_bytes type_bytes bytes_of little bytes_of_all
two_back r = reader_back 0 [] ([] ∷ [] ∷ []) (record { version = 3; big = false; turned = false }) two r fits-two
