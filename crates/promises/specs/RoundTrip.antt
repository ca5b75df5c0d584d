-- What it is to write a header and to read it: the answers, the output and both tables, in one
-- record.
use Rattle.std.specs.Prelude.{ℕ, ◌≡◌, List, length, take}
use Rattle.reading.specs.Ceilings.{full}
use Rattle.values.specs.declared.Dialect.{Dialect}
use Rattle.header.specs.Answers.{as_header, reader_outcome, CameTo}
use Rattle.reading.specs.Replies.{as_reply}
use Rattle.writer.specs.Output.{written_at}
use Rattle.promises.specs.Back.{answer_for, output_for, contents_for, Enough}
use Rattle.promises.specs.RowContents.{SaysSheet, RowsEarliest}
use Rattle.promises.specs.declared.WrittenAndRead.{WrittenAndRead}

-- A call that wrote the sheet s in the version and byte order k at the alignment a, and then read
-- what it wrote: its two answers, the output and both tables, as they were (out, es, ts) and as it
-- left them (out', es', ts').
pub record WroteAndRead (k : Dialect) (a cap : ℕ) (s out : List ℕ) (es ts : List (List ℕ)) (r : WrittenAndRead) (out' : List ℕ) (es' ts' : List (List ℕ)) : Type 0 where
  -- what was written
  pub written : as_reply r.written ≡ answer_for k a s out
  pub output : out' ≡ output_for k a s out
  -- what the full reader makes of it
  pub read : CameTo (reader_outcome full cap es ts out') (as_header r.read) es' ts'
  -- where the header was written and there are rows enough, the answer and both tables say the
  -- sheet
  pub says : (end start : ℕ) → written_at end start ≡ as_reply r.written → Enough a s es ts → SaysSheet k a s end start es ts out' (record { answer = as_header r.read; entries = es'; tensors = ts' })
  -- and no placement of its tensors starts any of them earlier than their rows say
  pub earliest : (end start : ℕ) → written_at end start ≡ as_reply r.written → Enough a s es ts → RowsEarliest a (take (length (contents_for a s).tensors) ts')
