-- The refusals of a reader, by number.
use Rattle.std.specs.Prelude.{ℕ, List, [], ◌∷◌}

-- every refusal that a reader gives, in the order of the table: of a field that is not there, the
-- start, the rows, texts, types, tensors, their offsets, and the data's start
abbrev pub reader_refusals : List ℕ
reader_refusals = 1 ∷ 2 ∷ 3 ∷ 4 ∷ 5 ∷ 6 ∷ 7 ∷ 8 ∷ 9 ∷ 10 ∷ 11 ∷ 12 ∷ 13 ∷ 14 ∷ 15 ∷ 16 ∷ 17 ∷ 18 ∷ []
