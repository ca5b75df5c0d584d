-- Keys in byte order, each once: which entry row comes next.
use Rattle.std.specs.Prelude.{ℕ, zero, suc, Bool, true, List, [], ◌∷◌, length, get_or, if◌then◌else◌, Option, Some, None}
use Rattle.fields.specs.Order.{before}
use Rattle.values.specs.Contents.{inside_of}
use Rattle.rows.specs.Columns.{place_in, length_in}

-- the name of a row: an entry's key, or a tensor's name
abbrev pub name_in : List ℕ → List ℕ → List ℕ
name_in s row = inside_of s (record { place = place_in row; len = length_in row })

-- the key of the row i, and the empty key where there is no such row
abbrev pub key_at : List ℕ → List (List ℕ) → ℕ → List ℕ
key_at s rows i = name_in s (get_or rows i [])

-- whether a key is still to come: at the start all are, and after a row those that its key comes
-- before
abbrev pub to_come : List ℕ → List (List ℕ) → Option ℕ → List ℕ → Bool
to_come s rows None key = true
to_come s rows (Some j) key = before (key_at s rows j) key

-- the better of the best so far and the row i, whose key is key: the lesser key, and of equal keys
-- the later row
abbrev pub better : List ℕ → List (List ℕ) → Option ℕ → ℕ → List ℕ → Option ℕ
better s rows None i key = Some i
better s rows (Some j) i key = if before (key_at s rows j) key then Some j else Some i

-- the best so far, once the row i was looked at
abbrev pub improved : List ℕ → List (List ℕ) → Option ℕ → Option ℕ → ℕ → List ℕ → Option ℕ
improved s rows last z i key = if to_come s rows last key then better s rows z i key else z

-- the best of all, where z is the best so far and the rows from i on are left
abbrev pub best_from : List ℕ → List (List ℕ) → Option ℕ → Option ℕ → ℕ → List (List ℕ) → Option ℕ
best_from s rows last z i [] = z
best_from s rows last z i (row ∷ more) = best_from s rows last (improved s rows last z i (name_in s row)) (suc i) more

-- the row whose key comes next, or the end
abbrev pub next_key : List ℕ → List (List ℕ) → Option ℕ → Option ℕ
next_key s rows last = best_from s rows last None 0 rows

-- the row that comes next, with those after it, and none at the end
abbrev pub row_then : List (List ℕ) → (Option ℕ → List (List ℕ)) → Option ℕ → List (List ℕ)
row_then rows more None = []
row_then rows more (Some i) = get_or rows i [] ∷ more (Some i)

-- the rows whose keys are still to come, in the order of their keys, at most so many
unfoldable pub ordered_after : List ℕ → List (List ℕ) → ℕ → Option ℕ → List (List ℕ)
ordered_after s rows zero last = []
ordered_after s rows (suc most) last = row_then rows (λ next. ordered_after s rows most next) (next_key s rows last)

-- the rows in the byte order of their keys, each key once, with the last row that has it
unfoldable pub ordered : List ℕ → List (List ℕ) → List (List ℕ)
ordered s rows = ordered_after s rows (length rows) None
