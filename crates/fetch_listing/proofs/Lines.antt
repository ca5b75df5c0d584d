-- The lines of the rows, from one to the next. Assumes nothing.
use Prim.Native.Nat.{ℕ, ◌+◌, ◌≤◌, ◌<◌}
use mathlib.Core.Path.{◌≡◌}
use mathlib.Core.List.{List, [], ◌++◌}
use native.Mathlib.Numerals.{add-one}
use native.Mathlib.Nat.{add-zero}
use lib.ListN.{length, drop, get_or, drop_of_length-le}
use lib.Seq.{drop-cons, drop-drop, get_or-drop}
use Rattle.fetch_listing.specs.Text.{record_line, record_lines}

module _ (s : List ℕ) (rows : List (List ℕ)) (answers : List ℕ) (i : ℕ) where
  -- a row more, with its answer
  pub lines-turn : i < length rows → record_lines s (drop i rows) (drop i answers) ≡ record_line s (get_or rows i []) (get_or answers i 0) ++ record_lines s (drop (i + 1) rows) (drop (i + 1) answers)
  unfolding record_lines
  lines-turn h = rw (drop-cons rows i [] h, get_or-drop i answers 0 0, add-zero, drop-drop 1 i answers, add-one)

  -- no row more
  pub lines_end : length rows ≤ i → record_lines s (drop i rows) (drop i answers) ≡ []
  unfolding record_lines
  lines_end h = rw (drop_of_length-le rows {i = i} h)
