-- The offsets in a header are those of the layout of its tensors. Assumes nothing.
use Rattle.std.specs.Prelude.{Result, Ok, Err}
use Prim.Native.Nat.{ℕ, suc}
use mathlib.Core.Path.{◌≡◌, refl, sym, ap, subst, ◌∙◌}
use mathlib.Core.List.{List, [], ◌∷◌, map}
use native.Mathlib.Omega.{arith}
use lib.ListN.{length}
use Rattle.reading.specs.Replies.{gives}
use Rattle.writer.specs.Output.{written_at}
use Rattle.layout.specs.declared.Laid.{Laid}
use Rattle.layout.specs.declared.Placed.{Placed}
use Rattle.layout.specs.Layout.{nothing_laid, place_of, Layout, laid_out_from, refused_at, ahead, layout_from, layout_of}
use Rattle.layout.specs.Placement.{piece_size, Earliest}
use Rattle.layout.proofs.OffsetFacts.{offsets-earliest as layout-earliest}
use Rattle.layout.proofs.Places.{layout_end, layout_stops, layout_goes_on, placed_by}
use Rattle.values.specs.declared.Dialect.{Dialect}
use Rattle.tensors.specs.Format.{lengths}
use Rattle.tensors.specs.Contents.{TensorContent}
use Rattle.sheet.specs.Format.{SheetTensor}
use Rattle.sheet.specs.Sheet.{Records, sheet_of}
use Rattle.plan.specs.Header.{piece_of, laid_with, laid_from, records_in}
use Rattle.plan.specs.Plan.{laid_of}
use Rattle.writer.proofs.Planned.{PlannedBy, planned-by}
use Rattle.promises.specs.Back.{answer_for, pieces_in, offsets_in, sizes_in}
use Rattle.promises.proofs.AlignmentKept.{above_zero}
use Rattle.promises.proofs.WrittenReadsBack.{wrote-plan}

abbrev offset_in : TensorContent → ℕ
offset_in t = t.offset

-- the rest of a layout that was accepted
record Rest (o : ℕ) (rest : Layout) (offsets : List ℕ) (laid : Laid) : Type 0 where
  others : List ℕ
  is : rest ≡ laid_out_from others laid
  made : offsets ≡ o ∷ others

rest_of : (o : ℕ) (rest : Layout) {offsets : List ℕ} {laid : Laid} → ahead o rest ≡ laid_out_from offsets laid → Rest o rest offsets laid
rest_of o (laid_out_from others after) {offsets} {laid} e =
    let same : after ≡ laid = cc in
    record { others = others; is = ap (laid_out_from others) same; made = cc }
rest_of o (refused_at w i) e = let z : ◌≡◌ {A = ℕ} 0 1 = cc in absurd (omega arith)

offsets-from : (a : ℕ) (before : Laid) (i : ℕ) (ts : List SheetTensor) {offsets : List ℕ} {laid : Laid} → layout_from a before i (map piece_of ts) ≡ laid_out_from offsets laid
    → map offset_in (laid_from a before ts) ≡ offsets
offsets-from a before i [] {offsets} {laid} e =
    let h : laid_out_from [] before ≡ laid_out_from offsets laid = sym (layout_end a before i) ∙ e in
    cc
offsets-from a before i (t ∷ ts) {offsets} {laid} e =
    by (place_of a before (lengths t.parts.shape) t.parts.kind) refl (λ others h. offsets-from a (laid_with a before t) (suc i) ts h)
  where
    by : (p : Result Placed ℕ) → place_of a before (lengths t.parts.shape) t.parts.kind ≡ p
        → ((others : List ℕ) → layout_from a (laid_with a before t) (suc i) (map piece_of ts) ≡ laid_out_from others laid → map offset_in (laid_from a (laid_with a before t) ts) ≡ others)
        → map offset_in (laid_from a before (t ∷ ts)) ≡ offsets
    by (Ok x) f next =
        let o = x.offset in
        let after = x.laid in
        let p = placed_by a before (lengths t.parts.shape) t.parts.kind f in
        let r = rest_of o (layout_from a after (suc i) (map piece_of ts)) (sym (layout_goes_on a before i (piece_of t) (map piece_of ts) f) ∙ e) in
        let h = next r.others (subst (λ (l : Laid). layout_from a l (suc i) (map piece_of ts) ≡ laid_out_from r.others laid) p.then r.is) in
        let o_is : o ≡ before.next = p.offset in
        let made : offsets ≡ o ∷ r.others = r.made in
        cc
    by (Err w) f next =
        let h = sym (layout_stops a before i (piece_of t) (map piece_of ts) f) ∙ e in
        let z : ◌≡◌ {A = ℕ} 0 1 = cc in
        absurd (omega arith)

-- of tensors that can be laid, the header's offsets are the layout's: aligned, in order, without
-- overlap, and the least that are so
pub offsets_computed : (a : ℕ) (ts : List SheetTensor) {offsets : List ℕ} {laid : Laid} → layout_of a (map piece_of ts) ≡ laid_out_from offsets laid
    → map (λ (t : TensorContent). t.offset) (laid_from a nothing_laid ts) ≡ offsets
offsets_computed a ts e = offsets-from a nothing_laid 0 ts e

-- and its sizes those of the tensors that are laid
sizes_laid : (a : ℕ) (laid : Laid) (ts : List SheetTensor) → map (λ (t : TensorContent). t.size) (laid_from a laid ts) ≡ map piece_size (map piece_of ts)
sizes_laid a laid [] = refl
sizes_laid a laid (t ∷ ts) = ap (λ l. piece_size (piece_of t) ∷ l) (sizes_laid a (laid_with a laid t) ts)

-- a layout that was accepted
record Laying (layout : Layout) : Type 0 where
  offsets : List ℕ
  laid : Laid
  is : layout ≡ laid_out_from offsets laid

laying : (layout : Layout) → gives tt ≡ laid_of layout → Laying layout
laying (laid_out_from offsets laid) e = record { offsets = offsets; laid = laid; is = refl }
laying (refused_at w i) e = let z : ◌≡◌ {A = ℕ} 0 1 = cc in absurd (omega arith)

-- For any record sheet, version, byte order, alignment and output, where the header was written.
module _ (k : Dialect) (a : ℕ) (s out : List ℕ) {end start : ℕ} (wrote : written_at end start ≡ answer_for k a s out) where
  planned : PlannedBy k a (length out) s (wrote-plan k a s out wrote).plan
  planned = planned-by k a (length out) s (wrote-plan k a s out wrote).fine

  laid_out : Laying (layout_of a (pieces_in s))
  laid_out =
      let same : records_in (sheet_of s) ≡ planned.records = ap records_in (sym planned.is) in
      laying (layout_of a (pieces_in s)) (subst (λ (c : Records). (gives tt) ≡ laid_of (layout_of a (map piece_of c.tensors))) (sym same) planned.fits)

  are : offsets_in a s ≡ laid_out.offsets
  are = offsets_computed a (records_in (sheet_of s)).tensors laid_out.is

  -- they are a placement of the tensors' sizes, and no placement starts any tensor earlier
  pub offsets-earliest : Earliest a (sizes_in a s) (offsets_in a s)
  offsets-earliest =
      rw (are, sizes_laid a nothing_laid (records_in (sheet_of s)).tensors) (layout-earliest a (above_zero a planned.aligned) (pieces_in s) laid_out.is)
