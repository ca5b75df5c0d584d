-- What the rows of both tables say, seen through the bytes that they point into; and what it is for
-- an answer and both tables to say a sheet.
use Rattle.std.specs.Prelude.{ℕ, suc, ◌≡◌, List, map, eqb, length, take, drop, if◌then◌else◌}
use Rattle.reading.specs.Reading.{Answer, accepted, seen}
use Rattle.rows.specs.Columns.{place_in, length_in, type_in, scalar_in, string_place_in, string_length_in, item_type_in, count_in, kept_in, first_item_in, kind_in, dimensions_in, first_length_in, second_length_in, third_length_in, fourth_length_in, offset_in, size_in}
use Rattle.layout.specs.Placement.{Earliest}
use Rattle.scalars.specs.Scalars.{scalar_of}
use Rattle.values.specs.declared.Dialect.{Dialect}
use Rattle.values.specs.declared.Span.{Span}
use Rattle.values.specs.declared.Value.{Value}
use Rattle.values.specs.declared.Value.TheVariants.{Single, Text, Array}
use Rattle.values.specs.Format.{depth}
use Rattle.values.specs.Contents.{EntryContent, bytes_at, value_content}
use Rattle.tensors.specs.declared.Shape.{Shape}
use Rattle.tensors.specs.Contents.{TensorContent}
use Rattle.header.specs.declared.Header.{Header}
use Rattle.header.specs.Answers.{Outcome}
use Rattle.header.specs.Contents.{Summary, dialect_in}
use Rattle.promises.specs.Back.{contents_for}

-- where a row says that its key or its name stands
abbrev pub span_in_row : List ℕ → Span
span_in_row row = record { place = place_in row; len = length_in row }

-- the value of an entry's row, by its type: a text's place and length; an array's item type, count,
-- kept count and the place of its first item; or the scalar that its word stands for
abbrev pub value_in_row : List ℕ → Value
value_in_row row =
    if eqb (type_in row) 8 then Text (record { place = string_place_in row; len = string_length_in row })
    else if eqb (type_in row) 9 then Array (record { item = item_type_in row; count = count_in row; kept = kept_in row; first = first_item_in row })
    else Single (scalar_of (type_in row) (scalar_in row))

-- what an entry's row says of the bytes: its key, and its value with all its items
abbrev pub entry_in_row : Dialect → List ℕ → List ℕ → EntryContent
entry_in_row k bytes row = record { key = bytes_at bytes (span_in_row row); value = value_content (suc depth) k bytes (value_in_row row) }

-- the shape of a tensor's row: its count of dimensions, and four lengths
abbrev pub shape_in_row : List ℕ → Shape
shape_in_row row = record { dimensions = dimensions_in row; first = first_length_in row; second = second_length_in row; third = third_length_in row; fourth = fourth_length_in row }

-- what a tensor's row says of the bytes: its name, shape, kind, offset and size
abbrev pub tensor_in_row : List ℕ → List ℕ → TensorContent
tensor_in_row bytes row = record { name = bytes_at bytes (span_in_row row); shape = shape_in_row row; kind = kind_in row; offset = offset_in row; size = size_in row }

-- the header that is answered of a sheet: the version and byte order asked for, the counts, the
-- alignment, its end and the start of its data
abbrev pub head_for : Dialect → ℕ → List ℕ → ℕ → ℕ → Header
head_for k a s end start = record {
  version = k.version;
  big = k.big;
  turned = k.turned;
  entries = length (contents_for a s).entries;
  tensors = length (contents_for a s).tensors;
  alignment = a;
  end = end;
  start = start;
}

-- An answer and both tables say the sheet s at the alignment a, of bytes in the version and byte
-- order k: the header is its own; the first rows say its entries and its tensors, in order, sizes
-- included; and the rows after those are as they were in the tables es and ts.
pub record SaysSheet (k : Dialect) (a : ℕ) (s : List ℕ) (end start : ℕ) (es ts : List (List ℕ)) (bytes : List ℕ) (o : Outcome) : Type 0 where
  pub answer : o.answer ≡ accepted (head_for k a s end start) end
  pub entries : map (entry_in_row k bytes) (take (length (contents_for a s).entries) o.entries) ≡ (contents_for a s).entries
  pub other_entries : drop (length (contents_for a s).entries) o.entries ≡ drop (length (contents_for a s).entries) es
  pub tensors : map (tensor_in_row bytes) (take (length (contents_for a s).tensors) o.tensors) ≡ (contents_for a s).tensors
  pub other_tensors : drop (length (contents_for a s).tensors) o.tensors ≡ drop (length (contents_for a s).tensors) ts

-- tensors start as early as can be at the alignment a, by the sizes and offsets that their rows tell
abbrev pub RowsEarliest : ℕ → List (List ℕ) → Type 0
RowsEarliest a rows = Earliest a (map size_in rows) (map offset_in rows)

-- all that a header and both tables tell of the bytes: the header's version, byte order, alignment,
-- end and start, and what as many rows say as it counts
abbrev pub summary_in_tables : List ℕ → List (List ℕ) → List (List ℕ) → Header → Summary
summary_in_tables bytes entries tensors h = record {
  dialect = dialect_in h;
  contents = record { entries = map (entry_in_row (dialect_in h) bytes) (take h.entries entries); tensors = map (tensor_in_row bytes) (take h.tensors tensors) };
  alignment = h.alignment;
  end = h.end;
  start = h.start;
}

-- and all that an answer and both tables tell of them: nothing but the refusal, where there is no
-- header
abbrev pub tables_tell : List ℕ → Outcome → Answer Summary
tables_tell bytes o = seen (summary_in_tables bytes o.entries o.tensors) o.answer
