-- A worked lookup, computed by the checker. Assumes nothing.
use Rattle.std.specs.Prelude.{Some, None}
use Prim.Native.Nat.{ℕ}
use mathlib.Core.Path.{◌≡◌, refl}
use mathlib.Core.List.{List, [], ◌∷◌}
use mathlib.Core.Bool.{false}
use lib.ListN.{take}
use Rattle.reading.specs.Replies.{gives, refuses}
use Rattle.reading.specs.Ceilings.{under}
use Rattle.reading.specs.Each.{each, check_each}
use Rattle.reading.specs.Reading.{run, here, seen, ◌>>=◌}
use Rattle.fields.specs.Value.{number}
use Rattle.values.specs.Format.{size, text_looking, text, key, type, value_of, array, value, entry}
use Rattle.scalars.specs.Scalars.{scalar_width}
use Rattle.scalars.specs.declared.Scalar.TheVariants.{U8}
use Rattle.values.specs.declared.Value.TheVariants.{Single}
use Rattle.start.specs.Format.{magic, version, counts, start}
use Rattle.header.specs.Format.{header}
use Rattle.lookup.specs.Questions.{lookup}

-- version 1, no tensors, and two entries: "a" is the u8 1, and then "a" is the u8 2
abbrev twice : List ℕ
twice =
    71 ∷ 71 ∷ 85 ∷ 70 ∷ 1 ∷ 0 ∷ 0 ∷ 0 ∷ 0 ∷ 0 ∷ 0 ∷ 0 ∷ 2 ∷ 0 ∷ 0 ∷ 0 ∷
    1 ∷ 0 ∷ 0 ∷ 0 ∷ 97 ∷ 0 ∷ 0 ∷ 0 ∷ 0 ∷ 1 ∷
    1 ∷ 0 ∷ 0 ∷ 0 ∷ 97 ∷ 0 ∷ 0 ∷ 0 ∷ 0 ∷ 2 ∷ []

-- the second decides
pub the_last : lookup (97 ∷ []) twice ≡ gives (Some (record { key = record { place = 30; len = 1 }; is_alignment = false; value = Single (U8 2) }))
unfolding run under seen ◌>>=◌ here each check_each number size text_looking key type scalar_width text value_of array value entry magic version counts start header
the_last = refl

-- "b" is not there
pub another : lookup (98 ∷ []) twice ≡ gives None
unfolding run under seen ◌>>=◌ here each check_each number size text_looking key type scalar_width text value_of array value entry magic version counts start header
another = refl

-- without its last byte the whole is refused, at the second value, though the first entry is there
pub cut : lookup (97 ∷ []) (take 35 twice) ≡ refuses 1 35
unfolding run under seen ◌>>=◌ here each check_each number size text_looking key type scalar_width text value_of array value entry magic version counts start header
cut = refl
