-- Worked listings, computed by the checker. Assumes nothing.
use Prim.Native.Nat.{ℕ}
use mathlib.Core.Path.{◌≡◌, refl}
use mathlib.Core.List.{List, [], ◌∷◌}
use lib.ListN.{take}
use Rattle.reading.specs.Back.{bytes_of_all}
use Rattle.reading.specs.Ceilings.{under}
use Rattle.reading.specs.Each.{each, check_each}
use Rattle.reading.specs.Reading.{run, ◌>>=◌, here}
use Rattle.fields.specs.Value.{number}
use Rattle.kinds.specs.Table.{block_of}
use Rattle.values.specs.Format.{size, text_looking, text}
use Rattle.tensors.specs.Format.{length_at, lengths_of, shape, kind_and_offset, tensor}
use Rattle.start.specs.Format.{magic, version, counts, start}
use Rattle.header.specs.Format.{header}
use Rattle.key_order.specs.Order.{ordered_after, ordered}
use Rattle.text_out.specs.Words.{digits, decimal, labelled, line_end}
use Rattle.listing.specs.Text.{version_text, format_text, head_line, further_text, lengths_text, shape_text, tensor_line, refusal_line, lines_of, text_of, listing_in, listing}

-- version 3: a, of kind 0, with 5 numbers, at offset 0; and b, of kind 1, with 3 numbers, at offset
-- 32
abbrev tensors3 : List ℕ
tensors3 =
    71 ∷ 71 ∷ 85 ∷ 70 ∷ 3 ∷ 0 ∷ 0 ∷ 0 ∷ 2 ∷ 0 ∷ 0 ∷ 0 ∷ 0 ∷ 0 ∷ 0 ∷ 0 ∷ 0 ∷ 0 ∷ 0 ∷ 0 ∷ 0 ∷ 0 ∷ 0 ∷ 0 ∷ 1 ∷ 0 ∷ 0 ∷ 0 ∷ 0 ∷ 0 ∷ 0 ∷
    0 ∷ 97 ∷ 1 ∷ 0 ∷ 0 ∷ 0 ∷ 5 ∷ 0 ∷ 0 ∷ 0 ∷ 0 ∷ 0 ∷ 0 ∷ 0 ∷ 0 ∷ 0 ∷ 0 ∷ 0 ∷ 0 ∷ 0 ∷ 0 ∷ 0 ∷ 0 ∷ 0 ∷ 0 ∷ 0 ∷ 1 ∷ 0 ∷ 0 ∷ 0 ∷ 0 ∷ 0 ∷
    0 ∷ 0 ∷ 98 ∷ 1 ∷ 0 ∷ 0 ∷ 0 ∷ 3 ∷ 0 ∷ 0 ∷ 0 ∷ 0 ∷ 0 ∷ 0 ∷ 0 ∷ 1 ∷ 0 ∷ 0 ∷ 0 ∷ 32 ∷ 0 ∷ 0 ∷ 0 ∷ 0 ∷ 0 ∷ 0 ∷ 0 ∷ []

-- "gguf v3 LE kv 0 tensors 2 align 32 data 96", "a 0 5 0 20", "b 1 3 32 6"
pub two-tensors : listing tensors3
    ≡ (103 ∷ 103 ∷ 117 ∷ 102 ∷ 32 ∷ 118 ∷ 51 ∷ 32 ∷ 76 ∷ 69 ∷ 32 ∷ 107 ∷ 118 ∷ 32 ∷ 48 ∷ 32 ∷ 116 ∷ 101 ∷ 110 ∷ 115 ∷ 111 ∷ 114 ∷ 115 ∷
    32 ∷ 50 ∷ 32 ∷ 97 ∷ 108 ∷ 105 ∷ 103 ∷ 110 ∷ 32 ∷ 51 ∷ 50 ∷ 32 ∷ 100 ∷ 97 ∷ 116 ∷ 97 ∷ 32 ∷ 57 ∷ 54 ∷ 10 ∷ 97 ∷ 32 ∷ 48 ∷ 32 ∷
    53 ∷ 32 ∷ 48 ∷ 32 ∷ 50 ∷ 48 ∷ 10 ∷ 98 ∷ 32 ∷ 49 ∷ 32 ∷ 51 ∷ 32 ∷ 51 ∷ 50 ∷ 32 ∷ 54 ∷ 10 ∷ [])
unfolding run under each header check_each magic version start counts size number here ◌>>=◌ tensor text text_looking shape lengths_of length_at kind_and_offset block_of bytes_of_all digits decimal labelled line_end version_text format_text head_line further_text lengths_text shape_text tensor_line lines_of text_of listing_in listing ordered_after ordered
two-tensors = refl

-- a byte less: "refused 1 82"
pub a-byte-less : listing (take 89 tensors3) ≡ (114 ∷ 101 ∷ 102 ∷ 117 ∷ 115 ∷ 101 ∷ 100 ∷ 32 ∷ 49 ∷ 32 ∷ 56 ∷ 50 ∷ 10 ∷ [])
unfolding run under each header check_each magic version start counts size number here ◌>>=◌ tensor text text_looking shape lengths_of length_at kind_and_offset block_of digits decimal labelled line_end refusal_line text_of listing_in listing
a-byte-less = refl
