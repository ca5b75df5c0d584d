-- What the writer's private steps are held to: sizes and counts of what they write. No contract of
-- a public function cites it.
use Rattle.std.specs.Prelude.{ℕ, suc, ◌+◌, List, [], ◌∷◌, ltb, if◌then◌else◌}
use Rattle.fields.specs.Order.{before}
use Rattle.reading.specs.Reading.{Answer, accepted, refused}
use Rattle.values.specs.Format.{alignment_key}
use Rattle.sheet.specs.Format.{SheetEntry}
use Rattle.plan.specs.declared.Draft.{Draft}

-- how many entries a header has, the added one included
abbrev pub entry_count : Draft → ℕ
entry_count d = if d.adds then d.entries + 1 else d.entries

-- the bytes of the length at the place i of n dimensions: none beyond those
abbrev pub length_size : ℕ → ℕ → ℕ
length_size n i = if ltb i n then 8 else 0

-- the bytes of a whole shape of n dimensions
abbrev pub shape_size : ℕ → ℕ
shape_size n = 4 + length_size n 0 + length_size n 1 + length_size n 2 + length_size n 3

-- a number that was read; of none, 0
abbrev pub number_in : Answer ℕ → ℕ
number_in (accepted v q) = v
number_in (refused n p) = 0

-- how many entries stand before the place of the alignment's own
abbrev pub coming_before : List SheetEntry → ℕ
coming_before [] = 0
coming_before (e ∷ es) = if before alignment_key e.content.key then 0 else suc (coming_before es)
