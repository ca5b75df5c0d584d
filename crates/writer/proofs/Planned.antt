-- What a plan tells: that every test of the sheet held, and what the header is made of. Assumes
-- nothing.
use Rattle.reading.specs.Replies.{Reply, gives, refuses}
use Rattle.std.specs.Prelude.{if◌then◌else◌}
use Prim.Native.Nat.{ℕ, zero, suc, ◌+◌, ◌-◌, ◌≤◌, ◌<◌, max}
use mathlib.Core.Path.{◌≡◌, refl, sym, ap, ◌∙◌}
use mathlib.Core.Bool.{Bool, true, false}
use mathlib.Core.List.{List, [], ◌∷◌, ◌++◌, map}
use native.Mathlib.Omega.{arith}
use borrow.Author.Tests.{leb-true}
use lib.Dec.{leb}
use lib.ListN.{length, drop, replicate, length-append, length-replicate}
use Rattle.reading.specs.Back.{got, bytes_of_all}
use Rattle.fields.specs.Bytes.{Wrote}
use Rattle.reading.specs.Choice.{require}
use Rattle.reading.specs.Each.{each, times}
use Rattle.reading.specs.Reading.{Answer, accepted, refused, run, is_accepted, done, ◌>>=◌}
use Rattle.reading.proofs.RunLaws.{bind_inv}
use Rattle.layout.specs.declared.Laid.{Laid}
use Rattle.layout.specs.Layout.{nothing_laid, layout_of}
use Rattle.values.specs.declared.Dialect.{Dialect}
use Rattle.values.specs.Format.{size_width}
use Rattle.values.specs.Contents.{entry_bytes}
use Rattle.tensors.specs.Contents.{tensor_bytes}
use Rattle.start.specs.Contents.{start_bytes}
use Rattle.header.specs.Contents.{start_in, header_bytes}
use Rattle.start.specs.Format.{known_dialect}
use Rattle.sheet.specs.Format.{SheetEntry, SheetTensor, metadata, tensor}
use Rattle.sheet.specs.Sheet.{Records, sheet_of}
use Rattle.sheet.proofs.PartsFound.{entry-ends}
use Rattle.sheet.proofs.WholeSheet.{sheet_entries, sheet_tensors}
use Rattle.plan.specs.declared.Plan.{Plan}
use Rattle.plan.specs.Header.{own_alignment, entries_with, entries_of, piece_of, laid_from, laid_with, header_contents, records_in, end_of, start_of}
use Rattle.plan.specs.Plan.{require_formed, require_laid, can_add, agrees, laid_of, counts_fit, plan_of, plan_for}
use Rattle.header.specs.Format.{is_alignment_lem}
use Rattle.plan.specs.Steps.{aligned}
use Rattle.plan.proofs.PartLengths.{start-length}
use Rattle.plan.proofs.Drafts.{entries-count, padded-not-below}
use Rattle.writer.specs.Output.{header_for, left_by}
use Rattle.writer.specs.Steps.{entry_count}

-- what a plan tells of the sheet for which it was made
pub record PlannedBy (k : Dialect) (a room : ℕ) (s : List ℕ) (plan : Plan) : Type 0 where
  pub records : Records
  pub end : ℕ
  pub is : accepted records end ≡ sheet_of s
  pub known : known_dialect k ≡ true
  pub aligned : is_alignment_lem a ≡ true
  pub added : can_add a (own_alignment records.entries) ≡ true
  pub agreed : agrees a (own_alignment records.entries) ≡ true
  pub fits : gives tt ≡ laid_of (layout_of a (map piece_of records.tensors))
  pub counted : counts_fit k (length (entries_of a records.entries)) (length records.tensors) ≡ true
  pub within : start_of k a records ≤ room
  pub told : plan ≡ plan_of k a records

-- a test that held, and what follows it
passed : (t : Bool) (w p : ℕ) (rest : Reply Plan) {plan : Plan} → gives plan ≡ require t (refuses w p) rest → (t ≡ true) × (gives plan ≡ rest)
passed true w p rest e = (refl, e)
passed false w p rest e = let z : ◌≡◌ {A = ℕ} 0 1 = cc in absurd (omega arith)

passed-laid : (l : Reply (Unit {0})) (rest : Reply Plan) {plan : Plan} → gives plan ≡ require_laid l rest → (gives tt ≡ l) × (gives plan ≡ rest)
passed-laid (gives tt) rest e = (refl, e)
passed-laid (refuses w i) rest e = let z : ◌≡◌ {A = ℕ} 0 1 = cc in absurd (omega arith)

module _ (k : Dialect) (a room : ℕ) (s : List ℕ) {plan : Plan} where
  by : known_dialect k ≡ true → (r : Answer Records) → r ≡ sheet_of s → gives plan ≡ require_formed r 31 (aligned k a room) → PlannedBy k a room s plan
  by v (refused n p) h e = let z : ◌≡◌ {A = ℕ} 0 1 = cc in absurd (omega arith)
  by v (accepted c q) h e =
      let one = passed (is_alignment_lem a) 32 0 _ e in
      let two = passed (can_add a (own_alignment c.entries)) 33 0 _ one.1 in
      let three = passed (agrees a (own_alignment c.entries)) 34 0 _ two.1 in
      let four = passed-laid (laid_of (layout_of a (map piece_of c.tensors))) _ three.1 in
      let five = passed (counts_fit k (length (entries_of a c.entries)) (length c.tensors)) 37 0 _ four.1 in
      let six = passed (leb (start_of k a c) room) 38 0 _ five.1 in
      record {
        records = c;
        end = q;
        is = h;
        known = v;
        aligned = one.0;
        added = two.0;
        agreed = three.0;
        fits = four.0;
        counted = five.0;
        within = leb-true _ _ six.0;
        told = let f : plan ≡ plan_of k a c = cc in f;
      }

  pub planned-by : gives plan ≡ plan_for k a room s → PlannedBy k a room s plan
  unfolding plan_for
  planned-by e = let v = passed (known_dialect k) 30 0 _ e in by v.0 (sheet_of s) refl v.1

-- there are as many tensors in the header as in the sheet
pub length_weights : (a : ℕ) (laid : Laid) (ts : List SheetTensor) → length (laid_from a laid ts) ≡ length ts
length_weights a laid [] = refl
length_weights a laid (t ∷ ts) = ap suc (length_weights a (laid_with a laid t) ts)

count_cases : (b : Bool) (n : ℕ) → n + (if b then 1 else 0) ≡ (if b then n + 1 else n)
count_cases true n = refl
count_cases false n = omega arith

-- every entry takes bytes, so that there are no more entries than bytes
entries-short : (s : List ℕ) (n p : ℕ) {l : List SheetEntry} {q : ℕ} → accepted l q ≡ run (times n metadata) s p → (p + n ≤ q) × (q ≤ max p (length s))
unfolding each run
entries-short s zero p {l} {q} e =
    let k : q ≡ p = cc in
    (omega arith, omega arith)
entries-short s (suc n) p {l} {q} e =
    let i = bind_inv metadata (λ a. times n metadata >>= (λ more. done (a ∷ more))) s p e in
    let h = entry-ends s p i.2 in
    let j = bind_inv (times n metadata) (λ more. done (i.0 ∷ more)) s i.1 i.3 in
    let r = entries-short s n i.1 j.2 in
    let k : q ≡ j.1 = cc in
    (omega arith, omega arith)

module _ {k : Dialect} {a room : ℕ} {s : List ℕ} {plan : Plan} (p : PlannedBy k a room s plan) where
  same-records : records_in (sheet_of s) ≡ p.records
  same-records = ap records_in (sym p.is)

  pub entries-read : accepted p.records.entries p.records.first ≡ run (times plan.draft.entries metadata) s 1
  entries-read = rw p.told (sheet_entries s p.is)

  pub tensors-read : accepted p.records.tensors p.end ≡ run (times plan.draft.tensors tensor) s plan.draft.first
  tensors-read = rw p.told (sheet_tensors s p.is)

  pub entries-all : is_accepted (run (times plan.draft.entries metadata) s 1) ≡ true
  entries-all = ap is_accepted (sym entries-read)

  pub tensors-all : is_accepted (run (times plan.draft.tensors tensor) s plan.draft.first) ≡ true
  tensors-all = ap is_accepted (sym tensors-read)

  pub tensors_fit : gives tt ≡ laid_of (layout_of a (map piece_of (got (run (times plan.draft.tensors tensor) s plan.draft.first))))
  tensors_fit = rw (← tensors-read) p.fits

  -- the parts of the header
  abbrev start : List ℕ
  start = start_bytes (record { dialect = k; tensors = plan.draft.tensors; entries = entry_count plan.draft })

  abbrev entries : List ℕ
  entries = bytes_of_all (entry_bytes k) (entries_with plan.draft.adds a (got (run (times plan.draft.entries metadata) s 1)))

  abbrev tensors : List ℕ
  tensors = bytes_of_all (tensor_bytes k) (laid_from a nothing_laid (got (run (times plan.draft.tensors tensor) s plan.draft.first)))

  same_start : start ≡ start_bytes (start_in k (header_contents a p.records))
  same_start = rw (p.told, length_weights, entries-count, count_cases)

  pub header-parts : header_for k a s ≡ start ++ entries ++ tensors
  unfolding header_for header_bytes
  header-parts = rw (same-records, same_start, ← entries-read, ← tensors-read, p.told)

  pub header-end : plan.end ≡ length (header_for k a s)
  unfolding header_for
  header-end = rw (p.told, same-records)

  pub header-room : plan.end ≤ plan.start
  header-room = rw p.told (padded-not-below a (end_of k a p.records))

  pub start-room : plan.start ≤ room
  start-room = rw p.told p.within

  -- the output has room for all of it
  pub parts_fit : 8 + size_width k + size_width k + length entries + length tensors ≤ room
  parts_fit =
      let e = header-end ∙ ap length header-parts ∙ length-append (start ++ entries) tensors in
      let f = length-append start entries in
      let g = start-length (record { dialect = k; tensors = plan.draft.tensors; entries = entry_count plan.draft }) in
      let h = header-room in
      let i = start-room in
      omega arith

  -- no entry is without bytes
  pub count_small : length s < 18446744073709551616 → plan.draft.entries < 18446744073709551615
  count_small small =
      let h = entries-short s plan.draft.entries 1 entries-read in
      omega arith

  -- the header, and zeros up to the start of its data
  pub left-written : {o out : List ℕ} {n : ℕ} → Wrote (header_for k a s ++ replicate (plan.start - plan.end) 0) o out n → out ≡ left_by (gives plan) (header_for k a s) o
  left-written {o} w =
      let e = header-end in
      let f = header-room in
      let l : length (header_for k a s ++ replicate (plan.start - plan.end) 0) ≡ plan.start =
      length-append (header_for k a s) (replicate (plan.start - plan.end) 0) ∙ omega (arith, length-replicate {A = ℕ} (plan.start - plan.end) 0) in
      w.bytes ∙ ap (λ m. header_for k a s ++ replicate (plan.start - plan.end) 0 ++ drop m o) l
