-- The text of a replay, as bytes: a line for the trace, and one for each tensor, with its name and
-- the record after which it was complete; or one for a refusal.
use Rattle.std.specs.Prelude.{ℕ, List, [], ◌∷◌, ◌++◌, map, eqb, length, drop, get_or, if◌then◌else◌}
use Rattle.reading.specs.Back.{got}
use Rattle.reading.specs.Reading.{Answer, accepted, refused, seen}
use Rattle.tensors.specs.Rows.{tensor_row}
use Rattle.header.specs.Format.{FullHeader}
use Rattle.text_out.specs.Words.{labelled, line_end}
use Rattle.key_order.specs.Order.{name_in}
use Rattle.listing.specs.Text.{space, refusal_line}
use Rattle.fetches.specs.Replay.{never, replayed}
use Rattle.fetches.specs.Trace.{fetches}

-- the first line: "trace v1 records ", how many it has, " tensors ", how many there are
unfoldable pub trace_line : ℕ → ℕ → List ℕ
trace_line records tensors =
    labelled (116 ∷ 114 ∷ 97 ∷ 99 ∷ 101 ∷ 32 ∷ 118 ∷ 49 ∷ 32 ∷ 114 ∷ 101 ∷ 99 ∷ 111 ∷ 114 ∷ 100 ∷ 115 ∷ 32 ∷ []) records
    ++ line_end (32 ∷ 116 ∷ 101 ∷ 110 ∷ 115 ∷ 111 ∷ 114 ∷ 115 ∷ 32 ∷ []) tensors

-- the end of a line: " ", and the record's number or "never"
unfoldable pub record_end : ℕ → List ℕ
record_end n = if eqb n never then 32 ∷ 110 ∷ 101 ∷ 118 ∷ 101 ∷ 114 ∷ 10 ∷ [] else line_end space n

-- the line of a tensor: its name, and that
unfoldable pub record_line : List ℕ → List ℕ → ℕ → List ℕ
record_line s row n = name_in s row ++ record_end n

-- a line for each row, with its answer
unfoldable pub record_lines : List ℕ → List (List ℕ) → List ℕ → List ℕ
record_lines s [] answers = []
record_lines s (row ∷ rows) answers = record_line s row (get_or answers 0 0) ++ record_lines s rows (drop 1 answers)

-- all lines of a replay of so many records
unfoldable pub lines_of : ℕ → List ℕ → List (List ℕ) → List ℕ → List ℕ
lines_of records s rows answers = trace_line records (length rows) ++ record_lines s rows answers

-- the text of what a replay of a trace answers: all lines, or the refusal's alone
unfoldable pub replay_text : List ℕ → List (List ℕ) → List ℕ → Answer (List ℕ) → List ℕ
replay_text s rows trace (accepted answers q) = lines_of (length (got (fetches trace))) s rows answers
replay_text s rows trace (refused n p) = refusal_line n p

-- the rows of the tensors of a header; none where it was refused
abbrev pub rows_of : Answer FullHeader → List (List ℕ)
rows_of h = got (seen (λ w. map tensor_row w.tensors) h)

-- the replay of a trace over a header, in a file of so many bytes, with room for so many answers;
-- the header's refusal where it was refused
unfoldable pub replay_over : Answer FullHeader → ℕ → List ℕ → ℕ → Answer (List ℕ)
replay_over (accepted w q) file trace room = replayed (map tensor_row w.tensors) w.head.start file trace room
replay_over (refused n p) file trace room = refused n p

-- the text of that
abbrev pub fetch_text : List ℕ → Answer FullHeader → ℕ → List ℕ → ℕ → List ℕ
fetch_text s h file trace room = replay_text s (rows_of h) trace (replay_over h file trace room)
