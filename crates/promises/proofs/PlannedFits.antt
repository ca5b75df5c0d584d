-- A header that was planned can be written: each number fits its field, and what a reader tests
-- holds. Assumes nothing.
use Rattle.reading.specs.Replies.{Reply, gives, refuses}
use Rattle.std.specs.Prelude.{if◌then◌else◌, Result, Ok, Err}
use Prim.Native.Nat.{ℕ, suc, ◌%◌, ◌^◌, ◌≤◌, ◌<◌, max}
use mathlib.Core.Path.{◌≡◌, refl, ap, subst, ◌∙◌}
use mathlib.Core.Bool.{Bool, true, false}
use mathlib.Core.List.{List, [], ◌∷◌, ◌++◌, map}
use native.Mathlib.Nat.{zero-mod}
use native.Mathlib.Omega.{arith}
use borrow.Author.Tests.{leb-true}
use lib.Dec.{leb, eqb}
use lib.ListN.{length, length-append}
use Rattle.reading.specs.Back.{Along, All, bytes_of_all}
use Rattle.fields.specs.Bytes.{Byte, Within}
use Rattle.fields.specs.Order.{before}
use Rattle.reading.proofs.SureLaws.{all_map}
use Rattle.kinds.specs.Shape.{greatest}
use Rattle.kinds.proofs.KindTable.{written_known}
use Rattle.layout.specs.declared.Laid.{Laid}
use Rattle.layout.specs.declared.Placed.{Placed}
use Rattle.layout.specs.Layout.{nothing_laid, end_after, place_of, layout_from}
use Rattle.layout.specs.Padding.{is_multiple}
use Rattle.layout.proofs.Padding.{padded-multiple}
use Rattle.layout.proofs.Places.{layout_stops, layout_goes_on, placed_by}
use Rattle.values.specs.declared.Dialect.{Dialect}
use Rattle.values.specs.Format.{size_width, alignment_key}
use Rattle.scalars.specs.Scalars.{scalar_width}
use Rattle.tensors.specs.Format.{lengths}
use Rattle.values.specs.Contents.{EntryContent, entry_bytes, text_bytes, Short, FitsEntry}
use Rattle.tensors.specs.Contents.{TensorContent, shape_bytes, kind_and_offset_bytes, tensor_bytes, FitsShape, FitsTensor, total_with}
use Rattle.scalars.proofs.Bits.{scalar_fits}
use Rattle.start.specs.declared.Rooms.{Rooms}
use Rattle.header.specs.Contents.{header_bytes, alignment_in, FitsContents}
use Rattle.sheet.specs.Format.{SheetEntry, SheetTensor}
use Rattle.sheet.proofs.SheetFits.{sheet_fits, drawn_fit}
use Rattle.plan.specs.declared.Plan.{Plan}
use Rattle.plan.specs.Header.{own_alignment, adds, alignment_entry, inserted, entry_in, entries_with, entries_of, piece_of, laid_with, laid_from, header_contents, end_of, start_of}
use Rattle.plan.specs.Plan.{can_add, laid_of, counts_fit}
use Rattle.plan.proofs.Drafts.{padded-not-below}
use Rattle.plan.proofs.PartLengths.{entry_length, stored-length, header-length, rows_more}
use Rattle.plan.proofs.PlanTurns.{laid-ahead}
use Rattle.writer.proofs.Planned.{PlannedBy, length_weights}
use Rattle.promises.proofs.AlignmentKept.{above_zero, alignment-said, added-small}

-- The entries.

-- the entry that is added
added-fits : (k : Dialect) (a : ℕ) → a ≤ 4294967295 → FitsEntry k (alignment_entry a)
unfolding scalar_width
added-fits k a small =
    let key : Short alignment_key = omega arith in
    record { key = key; value = scalar_fits 4 a (omega arith) (omega arith) (omega arith) (λ e. absurd (omega arith)) }

-- wherever it stands
inserted-fits : (k : Dialect) (a : ℕ) (es : List EntryContent) → FitsEntry k (alignment_entry a) → All (FitsEntry k) es → All (FitsEntry k) (inserted a es)
inserted-fits k a [] h all = (h, tt)
inserted-fits k a (e ∷ es) h all = by (before alignment_key e.key) (inserted-fits k a es h all.1)
  where
    by : (b : Bool) → All (FitsEntry k) (inserted a es) → All (FitsEntry k) (if b then alignment_entry a ∷ e ∷ es else e ∷ inserted a es)
    by true others = (h, all)
    by false others = (all.0, others)

entries_fit : (k : Dialect) (a : ℕ) (es : List SheetEntry) → can_add a (own_alignment es) ≡ true → All (λ (e : SheetEntry). FitsEntry k e.content) es → All (FitsEntry k) (entries_of a es)
entries_fit k a es can all = by (adds a (own_alignment es)) refl
  where
    own : All (FitsEntry k) (map entry_in es)
    own = all_map (FitsEntry k) entry_in (λ e h. h) es all

    by : (b : Bool) → adds a (own_alignment es) ≡ b → All (FitsEntry k) (entries_with b a es)
    by true e = inserted-fits k a (map entry_in es) (added-fits k a (added-small a (own_alignment es) can e)) own
    by false e = own

-- The tensors.

-- what a sheet is sure to say of a tensor
abbrev FitsDrawn : SheetTensor → Type 0
FitsDrawn t = Short t.name × FitsShape t.parts.shape × Within 4 t.parts.kind

not-refused : {w i : ℕ} → ◌≡◌ {A = Reply (Unit {0})} (gives tt) (refuses w i) → ⊥
not-refused e = let z : ◌≡◌ {A = ℕ} 0 1 = cc in omega arith

-- tensors that can be laid after others fit there
weights_fit : (a : ℕ) (laid : Laid) (i : ℕ) (ts : List SheetTensor) → laid.next ≤ greatest → gives tt ≡ laid_of (layout_from a laid i (map piece_of ts)) → All FitsDrawn ts
    → Along FitsTensor total_with laid.total (laid_from a laid ts)
weights_fit a laid i [] low fits all = tt
weights_fit a laid i (t ∷ ts) low fits all =
    by (place_of a laid (lengths t.parts.shape) t.parts.kind) refl (λ h others. weights_fit a (laid_with a laid t) (suc i) ts h others all.1)
  where
    by : (p : Result Placed ℕ) → place_of a laid (lengths t.parts.shape) t.parts.kind ≡ p
        → ((laid_with a laid t).next ≤ greatest → gives tt ≡ laid_of (layout_from a (laid_with a laid t) (suc i) (map piece_of ts)) → Along FitsTensor total_with (laid_with a laid t).total (laid_from a (laid_with a laid t) ts))
        → Along FitsTensor total_with laid.total (laid_from a laid (t ∷ ts))
    by (Ok x) e next =
        let o = x.offset in
        let after = x.laid in
        let low_fits : Within 8 laid.next = omega arith in
        let p = placed_by a laid (lengths t.parts.shape) t.parts.kind e in
        let rest = fits ∙ ap laid_of (layout_goes_on a laid i (piece_of t) (map piece_of ts) e) ∙ laid-ahead o (layout_from a after (suc i) (map piece_of ts)) in
        let others : gives tt ≡ laid_of (layout_from a (laid_with a laid t) (suc i) (map piece_of ts)) = subst (λ (l : Laid). (gives tt) ≡ laid_of (layout_from a l (suc i) (map piece_of ts))) p.then rest in (
          record {
            name = all.0.0;
            shape = all.0.1;
            kind = all.0.2;
            offset = low_fits;
            measured = refl;
            known = written_known t.parts.kind p.written;
            whole = p.whole;
            products = p.products;
            size = p.size;
            total = p.sum;
          },
          next p.padding others,
        )
    by (Err w) e next = absurd (not-refused (fits ∙ ap laid_of (layout_stops a laid i (piece_of t) (map piece_of ts) e)))

-- and their offsets are multiples of the alignment: the first is 0, and each next one is padded
weights_aligned : (a : ℕ) → 0 < a → (laid : Laid) → laid.next % a ≡ 0 → (ts : List SheetTensor) → All (λ (t : TensorContent). is_multiple a t.offset ≡ true) (laid_from a laid ts)
weights_aligned a pos laid e [] = tt
weights_aligned a pos laid e (t ∷ ts) =
    (rw e refl, weights_aligned a pos (laid_with a laid t) (padded-multiple a pos (end_after laid (lengths t.parts.shape) t.parts.kind)) ts)

-- The counts.

-- no record is without bytes
rows-count : {C : Type 0} (enc : C → List ℕ) → ((c : C) → 1 ≤ length (enc c)) → (cs : List C) → length cs ≤ length (bytes_of_all enc cs)
rows-count enc some [] = omega arith
rows-count enc some (c ∷ cs) = omega (arith, rows_more enc c cs, some c, rows-count enc some cs)

entry-some : (k : Dialect) (e : EntryContent) → 1 ≤ length (entry_bytes k e)
entry-some k e = omega (arith, entry_length k e)

tensor-some : (k : Dialect) (t : TensorContent) → 1 ≤ length (tensor_bytes k t)
unfolding tensor_bytes
tensor-some k t = omega (arith, length-append (text_bytes k t.name ++ shape_bytes k t.shape) (kind_and_offset_bytes k t.kind t.offset), stored-length k t.kind t.offset)

-- counts that were tested, and that 64 bits hold
counts-fit : (k : Dialect) (n m : ℕ) → counts_fit k n m ≡ true → n < 18446744073709551616 → m < 18446744073709551616 → Within (size_width k) n × Within (size_width k) m
counts-fit k n m e h i = by (eqb k.version 1) e
  where
    by : (b : Bool) → (if b then leb (max n m) 4294967295 else true) ≡ true → (n < 256 ^ (if b then 4 else 8)) × (m < 256 ^ (if b then 4 else 8))
    by true f =
        let both : max n m ≤ 4294967295 = leb-true _ _ f in
        (omega arith, omega arith)
    by false f = (omega arith, omega arith)

-- The whole.

module _ {k : Dialect} {a room : ℕ} {s : List ℕ} {plan : Plan} (p : PlannedBy k a room s plan) where
  -- it says the alignment that was asked for
  pub planned-alignment : alignment_in (header_contents a p.records).entries ≡ a
  planned-alignment = alignment-said a p.records.entries p.aligned p.added p.agreed

  header-inside : room < 2 ^ 64 → length (header_bytes k (header_contents a p.records)) < 18446744073709551616
  header-inside small =
      let i : end_of k a p.records ≤ start_of k a p.records = padded-not-below a (end_of k a p.records) in
      let j : start_of k a p.records ≤ room = p.within in
      omega arith

  both-counts : room < 2 ^ 64 → Within (size_width k) (length (header_contents a p.records).entries) × Within (size_width k) (length (header_contents a p.records).tensors)
  both-counts small =
      let h = header-length k (header_contents a p.records) in
      let i = header-inside small in
      let e = rows-count (entry_bytes k) (entry-some k) (header_contents a p.records).entries in
      let t = rows-count (tensor_bytes k) (tensor-some k) (header_contents a p.records).tensors in
      let same = length_weights a nothing_laid p.records.tensors in
      counts-fit k _ _ (rw (← same) at p.counted) (omega arith) (omega arith)

  -- a planned header can be written, and read back into tables that have a row for each record
  pub planned-fits : (rooms : Rooms) → All Byte s → room < 2 ^ 64 → length (header_contents a p.records).entries ≤ rooms.entries → length (header_contents a p.records).tensors ≤ rooms.tensors
      → FitsContents rooms k (header_contents a p.records)
  planned-fits rooms all small entries tensors =
      let starts : start_of k a p.records ≤ greatest = omega (arith, p.within) in
      let counts = both-counts small in
      record {
        known = p.known;
        entry_count = counts.0;
        tensor_count = counts.1;
        entry_room = entries;
        tensor_room = tensors;
        entries = entries_fit k a p.records.entries p.added (sheet_fits s all p.is k);
        tensors = weights_fit a nothing_laid 0 p.records.tensors (omega arith) p.fits (drawn_fit s all p.is);
        start = rw planned-alignment starts;
        aligned = rw planned-alignment (weights_aligned a (above_zero a p.aligned) nothing_laid (zero-mod a) p.records.tensors);
      }
