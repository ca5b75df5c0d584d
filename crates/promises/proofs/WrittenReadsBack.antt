-- What the writer wrote reads back, and one sheet reads back the same from every version: a header
-- that was planned can be written, so the laws of the format's own bytes hold of it. Assumes
-- nothing.
use Rattle.reading.proofs.Sames.{same_given}
use Prim.Native.Nat.{ℕ, ◌-◌, ◌^◌, ◌≤◌, ◌<◌}
use mathlib.Core.Path.{◌≡◌, refl, sym, ap, subst, ◌∙◌}
use mathlib.Core.List.{List, ◌++◌, append_assoc}
use native.Mathlib.Omega.{arith}
use lib.ListN.{length, drop, replicate}
use Rattle.reading.specs.Replies.{Reply, gives, refuses}
use Rattle.writer.specs.Output.{written_at}
use Rattle.reading.specs.Back.{All}
use Rattle.fields.specs.Bytes.{Byte}
use Rattle.reading.specs.Reading.{accepted}
use Rattle.values.specs.declared.Dialect.{Dialect}
use Rattle.header.specs.Contents.{Contents, header_bytes, summary_of}
use Rattle.header.proofs.HeaderBack.{reader_back}
use Rattle.plan.specs.declared.Plan.{Plan}
use Rattle.plan.specs.Header.{header_contents, records_in, end_of, start_of}
use Rattle.plan.specs.Plan.{plan_for}
use Rattle.writer.specs.Output.{written_of, header_for, left_by}
use Rattle.writer.proofs.Planned.{PlannedBy, planned-by}
use Rattle.promises.specs.Back.{answer_for, output_for, read_in, contents_for, summary_for, Enough, SameOrder, versionless}
use Rattle.promises.proofs.PlannedFits.{planned-alignment, planned-fits}

module _ {k : Dialect} {a room : ℕ} {s : List ℕ} {plan : Plan} (all : All Byte s) (small : room < 2 ^ 64) (p : PlannedBy k a room s plan) where
  same_sheet : contents_for a s ≡ header_contents a p.records
  same_sheet = ap (λ r. header_contents a (records_in r)) (sym p.is)

  same_end : plan.end ≡ end_of k a p.records
  same_end = ap (λ (x : Plan). x.end) p.told

  same-told : summary_of k (header_contents a p.records) ≡ summary_for k a s plan.end plan.start
  same-told =
      let d : plan.start ≡ start_of k a p.records = ap (λ (x : Plan). x.start) p.told in
      rw (same_sheet, planned-alignment p, same_end, d)

  -- a planned header, and whatever follows it
  planned-back : (cap : ℕ) (es ts : List (List ℕ)) → Enough a s es ts → (r : List ℕ) → read_in cap es ts (header_for k a s ++ r) ≡ accepted (summary_for k a s plan.end plan.start) plan.end
  unfolding header_for
  planned-back cap es ts rows r =
      let entries = subst (λ (c : Contents). length c.entries ≤ length es) same_sheet rows.entries in
      let tensors = subst (λ (c : Contents). length c.tensors ≤ length ts) same_sheet rows.tensors in
      let fits = planned-fits p (record { entries = length es; tensors = length ts }) all small entries tensors in
      let back = reader_back cap es ts k (header_contents a p.records) r fits in
      subst (λ c. read_in cap es ts (header_bytes k c ++ r) ≡ accepted (summary_for k a s plan.end plan.start) plan.end) (sym same_sheet) (back ∙ rw (same-told, same_end))

-- the plan of what was written
pub record Writing (k : Dialect) (a : ℕ) (s out : List ℕ) (end start : ℕ) : Type 0 where
  pub plan : Plan
  pub fine : gives plan ≡ plan_for k a (length out) s
  pub ends : plan.end ≡ end
  pub starts : plan.start ≡ start

wrote_by : (k : Dialect) (a : ℕ) (s out : List ℕ) (p : Reply Plan) → p ≡ plan_for k a (length out) s → {end start : ℕ} → written_at end start ≡ written_of p → Writing k a s out end start
wrote_by k a s out (gives plan) e {end} {start} h =
    let both = same_given _ _ (sym h) in
    let ends : plan.end ≡ end = ap (λ x. x.end) both in
    let starts : plan.start ≡ start = ap (λ x. x.start) both in
    record { plan = plan; fine = e; ends = ends; starts = starts }
wrote_by k a s out (refuses n q) e h = let z : ◌≡◌ {A = ℕ} 0 1 = cc in absurd (omega arith)

pub wrote-plan : (k : Dialect) (a : ℕ) (s out : List ℕ) {end start : ℕ} → written_at end start ≡ answer_for k a s out → Writing k a s out end start
wrote-plan k a s out h = wrote_by k a s out (plan_for k a (length out) s) refl h

-- What was written, for any record sheet, version, byte order, alignment and output.
module _ (k : Dialect) (a : ℕ) (s out : List ℕ) (bytes : All Byte s) (small : length out < 2 ^ 64) {end start : ℕ} (wrote : written_at end start ≡ answer_for k a s out) where
  -- the header alone reads back, whatever follows it
  pub header-reads-back : (cap : ℕ) (es ts : List (List ℕ)) → Enough a s es ts → (r : List ℕ) → read_in cap es ts (header_for k a s ++ r) ≡ accepted (summary_for k a s end start) end
  header-reads-back cap es ts rows r =
      let w = wrote-plan k a s out wrote in
      let same : accepted (summary_for k a s w.plan.end w.plan.start) w.plan.end ≡ accepted (summary_for k a s end start) end = rw (w.ends, w.starts) in
      planned-back bytes small (planned-by k a (length out) s w.fine) cap es ts rows r ∙ same

  -- so does the output after the call
  pub written-reads-back : (cap : ℕ) (es ts : List (List ℕ)) → Enough a s es ts → (r : List ℕ) → read_in cap es ts (output_for k a s out ++ r) ≡ accepted (summary_for k a s end start) end
  written-reads-back cap es ts rows r =
      let w = wrote-plan k a s out wrote in
      let gap : List ℕ = replicate (w.plan.start - w.plan.end) 0 in
      let left : output_for k a s out ≡ left_by (gives w.plan) (header_for k a s) out = ap (λ p. left_by p (header_for k a s) out) (sym w.fine) in
      let same : output_for k a s out ++ r ≡ header_for k a s ++ (gap ++ (drop w.plan.start out ++ r)) = ap (λ l. l ++ r) left ∙ rw (append_assoc, append_assoc) in
      subst (λ l. read_in cap es ts l ≡ accepted (summary_for k a s end start) end) (sym same) (header-reads-back cap es ts rows (gap ++ (drop w.plan.start out ++ r)))

-- One sheet at one alignment, written twice, in two versions of one byte order: what is read of
-- both is the same but for the version, the header's end and the start of its data.
pub versions_never_lie : (k k' : Dialect) (a : ℕ) (s out out' : List ℕ) → All Byte s → length out < 2 ^ 64 → length out' < 2 ^ 64 → SameOrder k k'
    → {end start end' start' : ℕ} → written_at end start ≡ answer_for k a s out → written_at end' start' ≡ answer_for k' a s out'
    → (cap : ℕ) (es ts : List (List ℕ)) → Enough a s es ts → (r r' : List ℕ)
    → versionless (read_in cap es ts (output_for k a s out ++ r)) ≡ versionless (read_in cap es ts (output_for k' a s out' ++ r'))
versions_never_lie k k' a s out out' bytes small small' order wrote wrote' cap es ts rows r r' =
    ap versionless (written-reads-back k a s out bytes small wrote cap es ts rows r) ∙ rw (order.0, order.1) refl ∙ sym (ap versionless (written-reads-back k' a s out' bytes small' wrote' cap es ts rows r'))
