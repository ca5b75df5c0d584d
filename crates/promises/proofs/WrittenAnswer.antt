-- The answer of `read` to what was written, field by field: it is what reads back, with the counts.
-- Assumes nothing.
use Prim.Native.Nat.{ℕ, ◌^◌, ◌<◌}
use mathlib.Core.Path.{◌≡◌, refl, sym, ap, ◌∙◌}
use mathlib.Core.List.{List, ◌++◌, map}
use native.Mathlib.Omega.{arith}
use lib.ListN.{length, length-map}
use Rattle.writer.specs.Output.{written_at}
use Rattle.reading.specs.Back.{All}
use Rattle.fields.specs.Bytes.{Byte}
use Rattle.reading.specs.Reading.{Answer, accepted, refused, seen}
use Rattle.values.specs.declared.Dialect.{Dialect}
use Rattle.values.specs.Contents.{entry_content}
use Rattle.tensors.specs.Contents.{tensor_content}
use Rattle.header.specs.declared.Header.{Header}
use Rattle.reading.specs.Ceilings.{full}
use Rattle.header.specs.Answers.{reader_run}
use Rattle.header.specs.Contents.{Summary, summary_in, dialect_of}
use Rattle.header.specs.Format.{FullHeader}
use Rattle.header.proofs.Counted.{counted}
use Rattle.promises.specs.Back.{answer_for, output_for, contents_for, Enough}
use Rattle.promises.proofs.WrittenReadsBack.{written-reads-back}

-- a header as it is told, with the counts of its lists
abbrev head_of : Summary → Header
head_of t = record {
  version = t.dialect.version;
  big = t.dialect.big;
  turned = t.dialect.turned;
  entries = length t.contents.entries;
  tensors = length t.contents.tensors;
  alignment = t.alignment;
  end = t.end;
  start = t.start;
}

-- of what is read, it is the header that is answered
head-told : (s : List ℕ) (w : FullHeader) → length w.entries ≡ w.head.entries → length w.tensors ≡ w.head.tensors → w.head ≡ head_of (summary_in s w)
head-told s w entries tensors =
    let e : w.head.entries ≡ length (map (entry_content (dialect_of w) s) w.entries) = sym (length-map w.entries (entry_content (dialect_of w) s) ∙ entries) in
    let t : w.head.tensors ≡ length (map (tensor_content s) w.tensors) = sym (length-map w.tensors (tensor_content s) ∙ tensors) in
    rw (← e, ← t)

told-head : (cap : ℕ) (es ts : List (List ℕ)) (s : List ℕ) (x : Answer FullHeader) → x ≡ reader_run full cap es ts s → {t : Summary} {q : ℕ} → seen (summary_in s) x ≡ accepted t q
    → seen (λ (w : FullHeader). w.head) x ≡ accepted (head_of t) q
unfolding seen
told-head cap es ts s (accepted w o) e {t} {q} h =
    let is : summary_in s w ≡ t = cc in
    let at : o ≡ q = cc in
    let c = counted full cap es ts s e in
    let head : w.head ≡ head_of t = head-told s w c.entries c.tensors ∙ ap head_of is in
    rw (head, at)
told-head cap es ts s (refused n p) e h = let z : ◌≡◌ {A = ℕ} 0 1 = cc in absurd (omega arith)

-- for any record sheet, version, byte order, alignment and output, where the header was written:
-- its version and byte order, its counts, the alignment, its end and its start
pub written-answer : (k : Dialect) (a : ℕ) (s out : List ℕ) → All Byte s → length out < 2 ^ 64 → {end start : ℕ} → written_at end start ≡ answer_for k a s out
    → (cap : ℕ) (es ts : List (List ℕ)) → Enough a s es ts → (r : List ℕ)
    → seen (λ (w : FullHeader). w.head) (reader_run full cap es ts (output_for k a s out ++ r)) ≡ accepted (record {
      version = k.version;
      big = k.big;
      turned = k.turned;
      entries = length (contents_for a s).entries;
      tensors = length (contents_for a s).tensors;
      alignment = a;
      end = end;
      start = start;
    }) end
written-answer k a s out bytes small wrote cap es ts rows r =
    told-head cap es ts (output_for k a s out ++ r) (reader_run full cap es ts (output_for k a s out ++ r)) refl (written-reads-back k a s out bytes small wrote cap es ts rows r)
