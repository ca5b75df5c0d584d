-- What the steps inside a tensor's lengths put: each length for itself, where it is stated.
use Rattle.std.specs.Prelude.{ℕ, List, [], ◌∷◌, ◌++◌, ltb, if◌then◌else◌}
use Rattle.text_out.specs.Words.{labelled}
use Rattle.listing.specs.Text.{space}
use Rattle.rows.specs.Columns.{dimensions_in, first_length_in, second_length_in}

-- the first of so many lengths, and " -" where there are none
abbrev pub first_text : ℕ → ℕ → List ℕ
first_text count n = if ltb 0 count then labelled space n else (32 ∷ 45 ∷ [])

-- the length with that index of so many, and nothing where there are fewer
abbrev pub further_of : ℕ → ℕ → ℕ → List ℕ
further_of index count n = if ltb index count then labelled (120 ∷ []) n else []

-- the first two lengths of a tensor row
unfoldable pub plane_text : List ℕ → List ℕ
plane_text row = first_text (dimensions_in row) (first_length_in row) ++ further_of 1 (dimensions_in row) (second_length_in row)
