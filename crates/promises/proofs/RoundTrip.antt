-- To write a header and to read the output: what both calls ensure, and what a slice of bytes is,
-- give that the tables say the sheet. Assumes nothing.
use Prim.Native.Nat.{ℕ, suc, ◌^◌, ◌<◌}
use mathlib.Core.Path.{◌≡◌, sym, subst, ◌∙◌}
use mathlib.Core.List.{List, [], ◌∷◌, ◌++◌, append-nil}
use lib.ListN.{length, get_or}
use Rattle.reading.specs.Replies.{as_reply}
use Rattle.writer.specs.Output.{written_at}
use Rattle.reading.specs.Back.{All}
use Rattle.reading.specs.Ceilings.{full}
use Rattle.fields.specs.Bytes.{Byte}
use Rattle.values.specs.declared.Dialect.{Dialect}
use Rattle.header.specs.Answers.{as_header, reader_outcome, CameTo}
use Rattle.promises.specs.declared.WrittenAndRead.{WrittenAndRead}
use Rattle.promises.specs.Back.{answer_for, output_for, Enough}
use Rattle.promises.specs.RowContents.{SaysSheet}
use Rattle.promises.specs.RoundTrip.{WroteAndRead}
use Rattle.promises.proofs.WrittenTables.{written_tables}
use Rattle.promises.proofs.WrittenEarliest.{rows-earliest}

-- the numbers of a slice of bytes are bytes
all-bytes : (s : List ℕ) → ((i : ℕ) → get_or s i 0 < 256) → All Byte s
all-bytes [] each = tt
all-bytes (b ∷ s) each = (each 0, all-bytes s (λ i. each (suc i)))

module _ (k : Dialect) (a cap : ℕ) (s out : List ℕ) (es ts : List (List ℕ)) (r : WrittenAndRead) (out' : List ℕ) (es' ts' : List (List ℕ)) where
  -- what a call came to is the answer and the tables that it left
  came : CameTo (reader_outcome full cap es ts out') (as_header r.read) es' ts' → reader_outcome full cap es ts out' ≡ record { answer = as_header r.read; entries = es'; tensors = ts' }
  came read = rw (read.answer, read.entry_rows, read.tensor_rows)

  module _ (each : (i : ℕ) → get_or s i 0 < 256) (small : length out < 2 ^ 64) (written : as_reply r.written ≡ answer_for k a s out) (output : out' ≡ output_for k a s out)
      (read : CameTo (reader_outcome full cap es ts out') (as_header r.read) es' ts') where
    -- the answer and both tables say the sheet
    says_sheet : (end start : ℕ) → written_at end start ≡ as_reply r.written → Enough a s es ts → SaysSheet k a s end start es ts out' (record { answer = as_header r.read; entries = es'; tensors = ts' })
    says_sheet end start wrote rows =
        let says = written_tables k a s out (all-bytes s each) small (wrote ∙ written) cap es ts rows [] in
        let same : output_for k a s out ++ [] ≡ out' = append-nil (output_for k a s out) ∙ sym output in
        subst (SaysSheet k a s end start es ts out') (came read) (subst (λ l. SaysSheet k a s end start es ts l (reader_outcome full cap es ts l)) same says)

    pub round_trip : WroteAndRead k a cap s out es ts r out' es' ts'
    round_trip = record {
      written = written;
      output = output;
      read = read;
      says = says_sheet;
      earliest = λ end start wrote rows. rows-earliest k a s out (wrote ∙ written) es ts out' _ (says_sheet end start wrote rows);
    }
