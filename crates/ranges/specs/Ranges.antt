-- Whether every tensor's data ends inside a file.
use Rattle.std.specs.Prelude.{ℕ, suc, ◌+◌, List, [], ◌∷◌, leb, if◌then◌else◌}
use Rattle.rows.specs.Columns.{offset_in, size_in}
use Rattle.reading.specs.Replies.{Reply, gives, refuses}

-- where the data of a tensor row ends in the file, as a whole number
abbrev pub end_of : ℕ → List ℕ → ℕ
end_of start row = start + offset_in row + size_in row

-- refusal 20 with the number of the first tensor, counted from i, that ends after the file
abbrev pub check_from : ℕ → ℕ → ℕ → List (List ℕ) → Reply (Unit {0})
check_from start file i [] = gives tt
check_from start file i (row ∷ rows) = if leb (end_of start row) file then check_from start file (suc i) rows else refuses 20 i
