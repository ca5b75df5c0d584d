-- What the promises over the writer and the reader speak of: what the writer leaves, what the
-- reader makes of bytes, and what it is to make of those.
use Rattle.std.specs.Prelude.{ℕ, ◌≤◌, ◌≡◌, List, map, length}
use Rattle.reading.specs.Reading.{Answer, accepted, refused, seen}
use Rattle.layout.specs.Layout.{Piece}
use Rattle.values.specs.declared.Dialect.{Dialect}
use Rattle.tensors.specs.Contents.{TensorContent}
use Rattle.reading.specs.Ceilings.{full}
use Rattle.header.specs.Answers.{reader_run}
use Rattle.header.specs.Contents.{Contents, Summary, summary_in}
use Rattle.sheet.specs.Sheet.{sheet_of}
use Rattle.plan.specs.Header.{piece_of, header_contents, records_in}
use Rattle.plan.specs.Plan.{plan_for}
use Rattle.writer.specs.declared.Written.{Written}
use Rattle.reading.specs.Replies.{Reply}
use Rattle.writer.specs.Output.{written_of, header_for, left_by}

-- what the writer answers, for a version and byte order, an alignment, a record sheet and an output
abbrev pub answer_for : Dialect → ℕ → List ℕ → List ℕ → Reply Written
answer_for k a s out = written_of (plan_for k a (length out) s)

-- and the output after the call
abbrev pub output_for : Dialect → ℕ → List ℕ → List ℕ → List ℕ
output_for k a s out = left_by (plan_for k a (length out) s) (header_for k a s) out

-- what the full reader makes of bytes, with this cap and these tables, summed up
abbrev pub read_in : ℕ → List (List ℕ) → List (List ℕ) → List ℕ → Answer Summary
read_in cap es ts bytes = seen (summary_in bytes) (reader_run full cap es ts bytes)

-- all that the header holds: the sheet's entries, with the alignment's own where that is added, and
-- its tensors at their offsets
abbrev pub contents_for : ℕ → List ℕ → Contents
contents_for a s = header_contents a (records_in (sheet_of s))

-- its tensors as they are laid
abbrev pub pieces_in : List ℕ → List Piece
pieces_in s = map piece_of (records_in (sheet_of s)).tensors

-- the offsets that its tensors have in the header
abbrev pub offsets_in : ℕ → List ℕ → List ℕ
offsets_in a s = map (λ (t : TensorContent). t.offset) (contents_for a s).tensors

-- and the sizes
abbrev pub sizes_in : ℕ → List ℕ → List ℕ
sizes_in a s = map (λ (t : TensorContent). t.size) (contents_for a s).tensors

-- what it is to be summed up as, where it ends and its data starts
abbrev pub summary_for : Dialect → ℕ → List ℕ → ℕ → ℕ → Summary
summary_for k a s end start = record { dialect = k; contents = contents_for a s; alignment = a; end = end; start = start }

-- tables with a row for each of its records
pub record Enough (a : ℕ) (s : List ℕ) (es ts : List (List ℕ)) : Type 0 where
  pub entries : length (contents_for a s).entries ≤ length es
  pub tensors : length (contents_for a s).tensors ≤ length ts

-- the same byte order, and the magic turned round in both or in neither
abbrev pub SameOrder : Dialect → Dialect → Type 0
SameOrder k k' = (k.big ≡ k'.big) × (k.turned ≡ k'.turned)

-- an answer but for what a version decides: the version itself, where the header ends, and where
-- its data starts
abbrev pub versionless : Answer Summary → Answer Summary
versionless (accepted t q) = accepted (record { dialect = record { version = 0; big = t.dialect.big; turned = t.dialect.turned }; contents = t.contents; alignment = t.alignment; end = 0; start = 0 }) 0
versionless (refused n p) = refused n p
