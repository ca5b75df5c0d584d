-- Every offset of an accepted header is a multiple of its alignment, and so is the start of its data:
-- the first was tested, and the second is made so. Assumes nothing.
use Prim.Native.Nat.{ℕ, ◌+◌, ◌%◌, ◌<◌}
use mathlib.Core.Path.{◌≡◌, subst, sym, ◌∙◌}
use mathlib.Core.List.{List}
use mathlib.Core.Bool.{true}
use native.Mathlib.Nat.{zero-mod, add-mod}
use lib.ListN.{length, take}
use borrow.Author.Tests.{eqb-true}
use Rattle.reading.specs.Back.{All, Sure}
use Rattle.reading.specs.Reading.{accepted}
use Rattle.reading.specs.declared.Limits.{Limits}
use Rattle.reading.proofs.Onward.{all_so}
use Rattle.reading.proofs.Repetition.{seen-accepted}
use Rattle.reading.proofs.SureLaws.{sure_then, sure_here, sure_run, sure_under, whatever}
use Rattle.layout.proofs.Padding.{padded-multiple}
use Rattle.tensors.specs.Rows.{tensor_row}
use Rattle.tensors.specs.declared.Tensor.{Tensor}
use Rattle.start.specs.declared.Rooms.{Rooms}
use Rattle.header.specs.declared.Header.{Header}
use Rattle.header.specs.Answers.{reader_run, reader_outcome}
use Rattle.header.specs.Format.{FullHeader, is_aligned, header}
use Rattle.header.specs.Offsets.{AlignedRow, OffsetsAligned}
use Rattle.header.proofs.DataStart.{entries-alignment}
use Rattle.header.proofs.Judged.{sure_judged}
use Rattle.header.proofs.TableRows.{tensor-rows}

-- what is sure of a header: its alignment, the start of its data, and its tensors
record Mapped (w : FullHeader) : Type 0 where
  above : 0 < w.head.alignment
  start : w.head.start % w.head.alignment ≡ 0
  offsets : All (λ (t : Tensor). is_aligned w.head.alignment t ≡ true) w.tensors

sure_mapped : (rooms : Rooms) (cap : ℕ) (s : List ℕ) (p : ℕ) → Sure s (header rooms cap) p (λ w q. Mapped w)
unfolding header
sure_mapped rooms cap s p =
    sure_then whatever (λ c q u. sure_then (sure_run whatever) (λ es r read. sure_then whatever (λ ts e v. sure_here _ (sure_judged c es ts e (λ tested.
    let above = (entries-alignment c.dialect cap c.entries s q read.1).above in
    record { above = above; start = padded-multiple _ above e; offsets = tested.aligned })))))

-- two multiples of a add up to one
multiples_add : (a n m : ℕ) → n % a ≡ 0 → m % a ≡ 0 → (n + m) % a ≡ 0
multiples_add a n m e f = add-mod n m a ∙ rw (e, f) (zero-mod a)

row_aligned : (h : Header) → h.start % h.alignment ≡ 0 → (t : Tensor) → is_aligned h.alignment t ≡ true → AlignedRow h (tensor_row t)
row_aligned h start t e =
    let offset : t.offset % h.alignment ≡ 0 = eqb-true _ _ e in
    record { offset = offset; place = multiples_add h.alignment h.start t.offset start offset }

module _ (limits : Limits) (cap : ℕ) (es ts : List (List ℕ)) (s : List ℕ) where
  mapped : {w : FullHeader} {q : ℕ} → accepted w q ≡ reader_run limits cap es ts s → Mapped w
  mapped {w} {q} read = (sure_under limits (sure_mapped (record { entries = length es; tensors = length ts }) cap s 0)).holds w q read

  -- whatever the bytes, the ceilings, the cap and the tables are: where the answer is a header h, its
  -- alignment is above 0, its data starts at a multiple of it, and as many rows as it counts tell
  -- offsets that are multiples of it, in the data and in the file
  pub rows-aligned : {h : Header} {q : ℕ} → accepted h q ≡ (reader_outcome limits cap es ts s).answer → OffsetsAligned h (take h.tensors (reader_outcome limits cap es ts s).tensors)
  rows-aligned {h} {q} told =
      let w = seen-accepted _ _ _ _ told in
      let m = mapped w.1 in
      let head : w.0.head ≡ h = sym w.2 in
      record {
        above = subst (λ (x : Header). 0 < x.alignment) head m.above;
        start = subst (λ (x : Header). x.start % x.alignment ≡ 0) head m.start;
        rows = tensor-rows limits cap es ts s AlignedRow (λ v o read. let n = mapped read in all_so (row_aligned v.head n.start) v.tensors n.offsets) told;
      }
