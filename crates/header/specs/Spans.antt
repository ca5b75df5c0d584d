-- Where what a header and its rows point at ends.
use Rattle.std.specs.Prelude.{ℕ, ◌+◌, ◌≤◌, ◌≡◌, List, length, take}
use Rattle.reading.specs.Back.{All}
use Rattle.rows.specs.Columns.{place_in, length_in, type_in, string_place_in, string_length_in, first_item_in}
use Rattle.values.specs.Spans.{EndsBy, EntryEndsBy}
use Rattle.tensors.specs.declared.Tensor.{Tensor}
use Rattle.header.specs.declared.Header.{Header}
use Rattle.header.specs.Format.{FullHeader}
use Rattle.header.specs.Answers.{Outcome}
use Rattle.header.specs.Contents.{dialect_of}

-- every key, string and name of a header ends at or before the header's end, and so do the items of
-- every array; and that end is within the bytes s
pub record SpansInside (s : List ℕ) (w : FullHeader) : Type 0 where
  pub end : w.head.end ≤ length s
  pub entries : All (EntryEndsBy (dialect_of w) s w.head.end) w.entries
  pub tensors : All (λ (t : Tensor). EndsBy w.head.end t.name) w.tensors

-- an entry's row: its key ends at or before e; where its type is 8, a string, the string does;
-- where it is 9, an array, the first item begins there
pub record EntryRowEndsBy (e : ℕ) (row : List ℕ) : Type 0 where
  pub key : place_in row + length_in row ≤ e
  pub text : type_in row ≡ 8 → string_place_in row + string_length_in row ≤ e
  pub items : type_in row ≡ 9 → first_item_in row ≤ e

-- the same of the rows of both tables: as many as the header counts, from the front
pub record RowsInside (s : List ℕ) (h : Header) (o : Outcome) : Type 0 where
  pub end : h.end ≤ length s
  pub entries : All (EntryRowEndsBy h.end) (take h.entries o.entries)
  pub tensors : All (λ (row : List ℕ). place_in row + length_in row ≤ h.end) (take h.tensors o.tensors)
