-- Each refusal of the table is given: a short file for each of them, computed by the checker. Only
-- 18 has none, since no slice is long enough for it (`never-18`). Assumes nothing.
use Prim.Native.Nat.{ℕ}
use mathlib.Core.Path.{◌≡◌, refl}
use mathlib.Core.List.{List, [], ◌∷◌, ◌++◌}
use Rattle.reading.specs.Ceilings.{under, full}
use Rattle.reading.specs.Each.{each, check_each}
use Rattle.reading.specs.Reading.{Answer, refused, run, here, ◌>>=◌}
use Rattle.reading.specs.declared.Limits.{Limits}
use Rattle.fields.specs.Value.{number}
use Rattle.kinds.specs.Table.{block_of}
use Rattle.scalars.specs.Scalars.{scalar_width}
use Rattle.values.specs.Format.{value, size, text_looking, text, key, type, value_of, array, entry}
use Rattle.tensors.specs.Format.{length_at, lengths_of, shape, kind_and_offset, tensor}
use Rattle.start.specs.Format.{magic, version, counts, start}
use Rattle.header.specs.Answers.{reader_run}
use Rattle.header.specs.Format.{FullHeader, header}

-- a reader with rows for one entry and two tensors
abbrev reads : Limits → List ℕ → Answer FullHeader
reads l s = reader_run l 0 ([] ∷ []) ([] ∷ [] ∷ []) s

-- a file of version 1, with n tensors and m entries, and what stands after its counts
abbrev file : ℕ → ℕ → List ℕ → List ℕ
file n m records = 71 ∷ 71 ∷ 85 ∷ 70 ∷ 1 ∷ 0 ∷ 0 ∷ 0 ∷ n ∷ 0 ∷ 0 ∷ 0 ∷ m ∷ 0 ∷ 0 ∷ 0 ∷ records

-- a tensor with no name, one length of which only the last byte is not 0, that kind, and offset 0
abbrev long : ℕ → ℕ → List ℕ
long top kind =
    0 ∷ 0 ∷ 0 ∷ 0 ∷ 1 ∷ 0 ∷ 0 ∷ 0 ∷ 0 ∷ 0 ∷ 0 ∷ 0 ∷ 0 ∷ 0 ∷ 0 ∷ top ∷ kind ∷ 0 ∷ 0 ∷ 0 ∷ 0 ∷ 0 ∷ 0 ∷ 0 ∷ 0 ∷ 0 ∷ 0 ∷ 0 ∷ []

-- no bytes: the magic is not there
pub gives-1 : reads full [] ≡ refused 1 0
unfolding run under header start magic number here ◌>>=◌
gives-1 = refl

-- the magic of an older format, and none
pub gives-2 : reads full (108 ∷ 109 ∷ 103 ∷ 103 ∷ []) ≡ refused 2 0
unfolding run under header start magic number here ◌>>=◌
gives-2 = refl

pub gives-3 : reads full (71 ∷ 71 ∷ 85 ∷ 71 ∷ []) ≡ refused 3 0
unfolding run under header start magic number here ◌>>=◌
gives-3 = refl

-- version 4, and version 1 above a ceiling of 0
pub gives-4 : reads full (71 ∷ 71 ∷ 85 ∷ 70 ∷ 4 ∷ 0 ∷ 0 ∷ 0 ∷ []) ≡ refused 4 4
unfolding run under header start magic version number here ◌>>=◌
gives-4 = refl

pub gives-5 : reads (record { versions = 0; kinds = 39 }) (file 0 0 []) ≡ refused 5 4
unfolding run under header start magic version number here ◌>>=◌
gives-5 = refl

-- two entries, and a row for one
pub gives-6 : reads full (file 0 2 []) ≡ refused 6 12
unfolding run under header start magic version counts size number here ◌>>=◌
gives-6 = refl

-- an array of one array, before that one
abbrev nested : List ℕ
nested = 9 ∷ 0 ∷ 0 ∷ 0 ∷ 1 ∷ 0 ∷ 0 ∷ 0 ∷ []

-- a key of 2 ^ 30 + 1 bytes, a type 13, and an array in four others
pub gives-7 : reads full (file 0 1 (1 ∷ 0 ∷ 0 ∷ 64 ∷ [])) ≡ refused 7 16
unfolding run under header start magic version counts size number here ◌>>=◌ each entry key text_looking
gives-7 = refl

pub gives-8 : reads full (file 0 1 (0 ∷ 0 ∷ 0 ∷ 0 ∷ 13 ∷ 0 ∷ 0 ∷ 0 ∷ [])) ≡ refused 8 20
unfolding run under header start magic version counts size number here ◌>>=◌ each entry key text_looking value type
gives-8 = refl

pub gives-9 : reads full (file 0 1 (0 ∷ 0 ∷ 0 ∷ 0 ∷ 9 ∷ 0 ∷ 0 ∷ 0 ∷ (nested ++ nested ++ nested ++ nested))) ≡ refused 9 48
unfolding run under header start magic version counts size number here ◌>>=◌ each entry key text_looking value type value_of scalar_width array
gives-9 = refl

-- five dimensions, a kind 255, and kind 1 above a ceiling of 0
pub gives-10 : reads full (file 1 0 (0 ∷ 0 ∷ 0 ∷ 0 ∷ 5 ∷ 0 ∷ 0 ∷ 0 ∷ [])) ≡ refused 10 20
unfolding run under header start magic version counts size number here ◌>>=◌ each tensor text text_looking shape
gives-10 = refl

pub gives-11 : reads full (file 1 0 (long 0 255)) ≡ refused 11 32
unfolding run under header start magic version counts size number here ◌>>=◌ each tensor text text_looking shape lengths_of length_at kind_and_offset block_of
gives-11 = refl

pub gives-12 : reads (record { versions = 3; kinds = 0 }) (file 1 0 (long 0 1)) ≡ refused 12 32
unfolding run under header start magic version counts size number here ◌>>=◌ each tensor text text_looking shape lengths_of length_at kind_and_offset block_of
gives-12 = refl

-- two lengths of 2 ^ 32, one of 2 ^ 63 of four bytes each, and two of 2 ^ 63 of a byte each
pub gives-13 : reads full
    (file 1 0 (0 ∷ 0 ∷ 0 ∷ 0 ∷ 2 ∷ 0 ∷ 0 ∷ 0 ∷ 0 ∷ 0 ∷ 0 ∷ 0 ∷ 1 ∷ 0 ∷ 0 ∷ 0 ∷ 0 ∷ 0 ∷ 0 ∷ 0 ∷ 1 ∷ 0 ∷ 0 ∷ 0 ∷ 0 ∷ 0 ∷ 0 ∷ 0 ∷ 0 ∷ 0 ∷ 0 ∷ 0 ∷ 0 ∷ 0 ∷ 0 ∷ 0 ∷ []))
    ≡ refused 13 16
unfolding run under header start magic version counts size number here ◌>>=◌ each tensor text text_looking shape lengths_of length_at kind_and_offset block_of
gives-13 = refl

pub gives-14 : reads full (file 1 0 (long 128 0)) ≡ refused 14 16
unfolding run under header start magic version counts size number here ◌>>=◌ each tensor text text_looking shape lengths_of length_at kind_and_offset block_of
gives-14 = refl

pub gives-15 : reads full (file 2 0 (long 128 24 ++ long 128 24)) ≡ refused 15 44
unfolding run under header start magic version counts size number here ◌>>=◌ each tensor text text_looking shape lengths_of length_at kind_and_offset block_of
gives-15 = refl

-- a tensor with no name and no dimensions, of kind 0, at offset 1
pub gives-16 : reads full (file 1 0 (0 ∷ 0 ∷ 0 ∷ 0 ∷ 0 ∷ 0 ∷ 0 ∷ 0 ∷ 0 ∷ 0 ∷ 0 ∷ 0 ∷ 1 ∷ 0 ∷ 0 ∷ 0 ∷ 0 ∷ 0 ∷ 0 ∷ 0 ∷ [])) ≡ refused 16 28
unfolding run under header start magic version counts size number here ◌>>=◌ each check_each tensor text text_looking shape lengths_of length_at kind_and_offset block_of
gives-16 = refl

-- a tensor of kind 2, in blocks of 32, with no name and no dimensions
pub gives-17 : reads full (file 1 0 (0 ∷ 0 ∷ 0 ∷ 0 ∷ 0 ∷ 0 ∷ 0 ∷ 0 ∷ 2 ∷ 0 ∷ 0 ∷ 0 ∷ 0 ∷ 0 ∷ 0 ∷ 0 ∷ 0 ∷ 0 ∷ 0 ∷ 0 ∷ [])) ≡ refused 17 16
unfolding run under header start magic version counts size number here ◌>>=◌ each tensor text text_looking shape lengths_of length_at kind_and_offset block_of
gives-17 = refl
