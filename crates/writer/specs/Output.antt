-- What a writer answers, and what it leaves of its output.
use Rattle.std.specs.Prelude.{ℕ, ◌-◌, List, ◌++◌, drop, replicate}
use Rattle.values.specs.declared.Dialect.{Dialect}
use Rattle.header.specs.Contents.{header_bytes}
use Rattle.sheet.specs.Sheet.{sheet_of}
use Rattle.reading.specs.Replies.{Reply, gives, refuses}
use Rattle.plan.specs.declared.Plan.{Plan}
use Rattle.writer.specs.declared.Written.{Written}
use Rattle.plan.specs.Header.{header_contents, records_in}

-- a header that was written ends at end, and its data starts at start
abbrev pub written_at : ℕ → ℕ → Reply Written
written_at end start = gives (record { end = end; start = start })

-- where the header ends and where its data starts, or the refusal
abbrev pub written_of : Reply Plan → Reply Written
written_of (gives plan) = written_at plan.end plan.start
written_of (refuses n p) = refuses n p

-- the bytes of the header of a sheet
unfoldable pub header_for : Dialect → ℕ → List ℕ → List ℕ
header_for k a s = header_bytes k (header_contents a (records_in (sheet_of s)))

-- the output then: the header, zeros up to the start of its data, and what was there after that; at
-- a refusal all is as it was
abbrev pub left_by : Reply Plan → List ℕ → List ℕ → List ℕ
left_by (gives plan) bytes old = bytes ++ replicate (plan.start - plan.end) 0 ++ drop plan.start old
left_by (refuses n p) bytes old = old
