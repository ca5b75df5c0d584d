-- What the writer wrote stands in the reader's answer and in both of its tables: each row says what
-- was read, and what was read is the sheet. Assumes nothing.
use Prim.Native.Nat.{ℕ, ◌^◌, ◌<◌}
use mathlib.Core.Path.{◌≡◌, refl, sym, ap, ◌∙◌}
use mathlib.Core.List.{List, ◌++◌, map}
use native.Mathlib.Omega.{arith}
use lib.ListN.{length, take, drop, length-map}
use lib.Seq.{take-append_seam, drop-append_seam}
use Rattle.writer.specs.Output.{written_at}
use Rattle.reading.specs.Back.{All}
use Rattle.reading.specs.Ceilings.{full}
use Rattle.reading.specs.Reading.{Answer, accepted, refused, seen}
use Rattle.fields.specs.Bytes.{Byte}
use Rattle.values.specs.declared.Dialect.{Dialect}
use Rattle.values.specs.Contents.{entry_content}
use Rattle.values.specs.Rows.{entry_row}
use Rattle.tensors.specs.Contents.{tensor_content}
use Rattle.tensors.specs.Rows.{tensor_row}
use Rattle.header.specs.Answers.{Outcome, reader_run, outcome_of, reader_outcome}
use Rattle.header.specs.Contents.{Summary, summary_in, dialect_of}
use Rattle.header.specs.Format.{FullHeader}
use Rattle.promises.specs.Back.{answer_for, output_for, contents_for, summary_for, Enough, SameOrder, versionless}
use Rattle.promises.specs.RowContents.{entry_in_row, tensor_in_row, head_for, SaysSheet, summary_in_tables, tables_tell}
use Rattle.promises.proofs.RowsSay.{values_in_rows, entries-said, tensors-said}
use Rattle.promises.proofs.WrittenReadsBack.{written-reads-back}
use Rattle.promises.proofs.WrittenAnswer.{written-answer}

-- a table with a row for each of a list in front: where the rows say the list that c is, the first
-- rows say c, and the others are as they were
module _ {A C : Type 0} (row : A → List ℕ) (view : List ℕ → C) (l : List A) (c : List C) (old : List (List ℕ)) (says : map view (map row l) ≡ c) where
  as_many : length (map row l) ≡ length c
  as_many = sym (length-map (map row l) view) ∙ ap length says

  as_long : length l ≡ length c
  as_long = sym (length-map l row) ∙ as_many

  first_rows : map view (take (length c) (map row l ++ drop (length l) old)) ≡ c
  first_rows = rw (← as_many, take-append_seam) says

  other-rows : drop (length c) (map row l ++ drop (length l) old) ≡ drop (length c) old
  other-rows = rw (as_long, ← as_many, drop-append_seam) refl

-- what was read, where it is told as the summary of a sheet
module _ (k : Dialect) (a : ℕ) (s : List ℕ) (end start cap : ℕ) (es ts : List (List ℕ)) (bytes : List ℕ) where
  told_tables : (x : Answer FullHeader) → x ≡ reader_run full cap es ts bytes → seen (summary_in bytes) x ≡ accepted (summary_for k a s end start) end
      → seen (λ (w : FullHeader). w.head) x ≡ accepted (head_for k a s end start) end → SaysSheet k a s end start es ts bytes (outcome_of es ts x)
  unfolding seen
  told_tables (accepted w q) e h head =
      let is : summary_in bytes w ≡ summary_for k a s end start = cc in
      let dialect : dialect_of w ≡ k = ap (λ (t : Summary). t.dialect) is in
      let entries : map (entry_content (dialect_of w) bytes) w.entries ≡ (contents_for a s).entries = ap (λ (t : Summary). t.contents.entries) is in
      let tensors : map (tensor_content bytes) w.tensors ≡ (contents_for a s).tensors = ap (λ (t : Summary). t.contents.tensors) is in
      let e-says : map (entry_in_row k bytes) (map entry_row w.entries) ≡ (contents_for a s).entries =
      entries-said k bytes w.entries (values_in_rows full cap es ts bytes e) ∙ ap (λ d. map (entry_content d bytes) w.entries) (sym dialect) ∙ entries in
      let t-says : map (tensor_in_row bytes) (map tensor_row w.tensors) ≡ (contents_for a s).tensors = tensors-said bytes w.tensors ∙ tensors in
      record {
        answer = head;
        entries = first_rows entry_row (entry_in_row k bytes) w.entries (contents_for a s).entries es e-says;
        other_entries = other-rows entry_row (entry_in_row k bytes) w.entries (contents_for a s).entries es e-says;
        tensors = first_rows tensor_row (tensor_in_row bytes) w.tensors (contents_for a s).tensors ts t-says;
        other_tensors = other-rows tensor_row (tensor_in_row bytes) w.tensors (contents_for a s).tensors ts t-says;
      }
  told_tables (refused n p) e h head = let z : ◌≡◌ {A = ℕ} 0 1 = cc in absurd (omega arith)

-- For any record sheet, version, byte order, alignment and output, where the header was written:
-- whatever follows the output, with any cap, and with any tables that have a row for each record,
-- the reader's answer and both its tables say the sheet.
pub written_tables : (k : Dialect) (a : ℕ) (s out : List ℕ) → All Byte s → length out < 2 ^ 64 → {end start : ℕ} → written_at end start ≡ answer_for k a s out
    → (cap : ℕ) (es ts : List (List ℕ)) → Enough a s es ts → (r : List ℕ)
    → SaysSheet k a s end start es ts (output_for k a s out ++ r) (reader_outcome full cap es ts (output_for k a s out ++ r))
written_tables k a s out bytes small {end} {start} wrote cap es ts rows r =
    told_tables k a s end start cap es ts (output_for k a s out ++ r) (reader_run full cap es ts (output_for k a s out ++ r)) refl
    (written-reads-back k a s out bytes small wrote cap es ts rows r) (written-answer k a s out bytes small wrote cap es ts rows r)

-- what an answer and tables tell that say a sheet
pub sheet_told : (k : Dialect) (a : ℕ) (s : List ℕ) (end start : ℕ) (es ts : List (List ℕ)) (bytes : List ℕ) (o : Outcome) → SaysSheet k a s end start es ts bytes o
    → tables_tell bytes o ≡ accepted (summary_for k a s end start) end
unfolding seen
sheet_told k a s end start es ts bytes o says = ap (seen (summary_in_tables bytes o.entries o.tensors)) says.answer ∙ rw (says.entries, says.tensors) refl

-- One sheet at one alignment, written twice, in two versions of one byte order, and read with any
-- caps into any tables: what both answers and the rows of all four tables tell is the same (keys,
-- types and values; names, shapes, kinds, offsets and sizes; the alignment) but for the version,
-- the header's end and the start of its data.
pub versions_never_lie_in_tables : (k k' : Dialect) (a : ℕ) (s out out' : List ℕ) → All Byte s → length out < 2 ^ 64 → length out' < 2 ^ 64 → SameOrder k k'
    → {end start end' start' : ℕ} → written_at end start ≡ answer_for k a s out → written_at end' start' ≡ answer_for k' a s out'
    → (cap cap' : ℕ) (es ts es' ts' : List (List ℕ)) → Enough a s es ts → Enough a s es' ts' → (r r' : List ℕ)
    → versionless (tables_tell (output_for k a s out ++ r) (reader_outcome full cap es ts (output_for k a s out ++ r)))
    ≡ versionless (tables_tell (output_for k' a s out' ++ r') (reader_outcome full cap' es' ts' (output_for k' a s out' ++ r')))
versions_never_lie_in_tables k k' a s out out' bytes small small' order wrote wrote' cap cap' es ts es' ts' rows rows' r r' =
    let told = sheet_told k a s _ _ es ts _ _ (written_tables k a s out bytes small wrote cap es ts rows r) in
    let told' = sheet_told k' a s _ _ es' ts' _ _ (written_tables k' a s out' bytes small' wrote' cap' es' ts' rows' r') in
    ap versionless told ∙ rw (order.0, order.1) refl ∙ sym (ap versionless told')
