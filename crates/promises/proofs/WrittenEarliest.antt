-- No placement of a sheet's tensors starts any of them earlier than the rows say that are read of
-- the header that was written: the rows tell its sizes and offsets. Assumes nothing.
use Prim.Native.Nat.{ℕ, ◌^◌, ◌<◌}
use mathlib.Core.Path.{◌≡◌, sym, ap, ◌∙◌}
use mathlib.Core.List.{List, ◌++◌, map, map-map}
use lib.ListN.{length, take}
use Rattle.writer.specs.Output.{written_at}
use Rattle.reading.specs.Back.{All}
use Rattle.reading.specs.Ceilings.{full}
use Rattle.fields.specs.Bytes.{Byte}
use Rattle.rows.specs.Columns.{offset_in, size_in}
use Rattle.values.specs.declared.Dialect.{Dialect}
use Rattle.tensors.specs.Contents.{TensorContent}
use Rattle.header.specs.Answers.{Outcome, reader_outcome}
use Rattle.promises.specs.Back.{answer_for, output_for, contents_for, offsets_in, sizes_in, Enough}
use Rattle.promises.specs.RowContents.{tensor_in_row, SaysSheet, RowsEarliest}
use Rattle.promises.proofs.Offsets.{offsets-earliest}
use Rattle.promises.proofs.WrittenTables.{written_tables}

-- For any record sheet, version, byte order, alignment and output, where the header was written.
module _ (k : Dialect) (a : ℕ) (s out : List ℕ) {end start : ℕ} (wrote : written_at end start ≡ answer_for k a s out) where
  -- an answer and tables that say the sheet
  pub rows-earliest : (es ts : List (List ℕ)) (bytes : List ℕ) (o : Outcome) → SaysSheet k a s end start es ts bytes o → RowsEarliest a (take (length (contents_for a s).tensors) o.tensors)
  rows-earliest es ts bytes o says =
      let rows = take (length (contents_for a s).tensors) o.tensors in
      let offsets : map offset_in rows ≡ offsets_in a s = sym (map-map (λ (t : TensorContent). t.offset) (tensor_in_row bytes) rows) ∙ ap (map (λ (t : TensorContent). t.offset)) says.tensors in
      let sizes : map size_in rows ≡ sizes_in a s = sym (map-map (λ (t : TensorContent). t.size) (tensor_in_row bytes) rows) ∙ ap (map (λ (t : TensorContent). t.size)) says.tensors in
      rw (offsets, sizes) (offsets-earliest k a s out wrote)

  -- so do those that the full reader leaves, whatever follows the output, with any cap, and with any
  -- tables that have a row for each record
  pub written-earliest : All Byte s → length out < 2 ^ 64 → (cap : ℕ) (es ts : List (List ℕ)) → Enough a s es ts → (r : List ℕ)
      → RowsEarliest a (take (length (contents_for a s).tensors) (reader_outcome full cap es ts (output_for k a s out ++ r)).tensors)
  written-earliest bytes small cap es ts rows r =
      rows-earliest es ts (output_for k a s out ++ r) (reader_outcome full cap es ts (output_for k a s out ++ r)) (written_tables k a s out bytes small wrote cap es ts rows r)
