-- Tensors written one after the other, each at the offset where the one before it left off. Assumes
-- nothing.
use Rattle.std.specs.Prelude.{Ok, Err}
use Prim.Native.Nat.{ℕ, suc, ◌+◌, ◌-◌, ◌≤◌, ◌<◌}
use mathlib.Core.Path.{◌≡◌, sym, ap, ◌∙◌}
use mathlib.Core.Bool.{true}
use mathlib.Core.List.{List, ◌∷◌, ◌++◌, map}
use native.Mathlib.Omega.{arith}
use native.Mathlib.Numerals.{add-one}
use borrow.Author.Tests.{le-leb}
use lib.ListN.{length, length-append}
use borrow.Rule.Slice.PartMut.{mid_of, put_mid}
use Rattle.reading.specs.Replies.{gives}
use Rattle.reading.specs.Back.{got, bytes_of_all}
use Rattle.fields.specs.Bytes.{Wrote}
use Rattle.reading.specs.Each.{times}
use Rattle.reading.specs.Reading.{accepted, refused, run, is_accepted}
use Rattle.reading.proofs.Repetition.{times-accepted, times-got, times-never, times-ends}
use Rattle.layout.specs.declared.Laid.{Laid}
use Rattle.layout.specs.Layout.{nothing_laid, place_of, layout_from, layout_of}
use Rattle.layout.proofs.Places.{layout_stops, layout_goes_on, placed_by}
use Rattle.values.specs.declared.Dialect.{Dialect}
use Rattle.values.specs.Format.{size_width}
use Rattle.tensors.specs.Format.{lengths}
use Rattle.tensors.specs.Contents.{TensorContent, tensor_bytes, content_of}
use Rattle.values.specs.Contents.{inside_of}
use Rattle.sheet.specs.declared.TensorParts.{TensorParts}
use Rattle.sheet.specs.Format.{SheetTensor, tensor}
use Rattle.sheet.proofs.PartsFound.{tensor-told}
use Rattle.plan.specs.Header.{piece_of, content_at, laid_with, laid_from}
use Rattle.plan.specs.Plan.{laid_of}
use Rattle.plan.proofs.PartLengths.{tensor-length}
use Rattle.plan.proofs.PlanTurns.{laid-ahead}
use Rattle.writer.proofs.Loops.{Part, part-start, part-turn, part_end, part_room}
use Rattle.writer.specs.Steps.{shape_size}

-- the name of a tensor is what stands at its place
name-stands : (s : List ℕ) (p : ℕ) {t : SheetTensor} {q : ℕ} → accepted t q ≡ run tensor s p → inside_of s t.parts.name ≡ t.name
name-stands s p {t} {q} e =
    let h = tensor-told s p e in
    rw (le-leb _ _ h.there) h.name

module _ (k : Dialect) (a : ℕ) (s : List ℕ) (m : ℕ) where
  -- the tensors that are left, and their bytes
  abbrev left_from : ℕ → ℕ → List SheetTensor
  left_from i from = got (run (times (m - i) tensor) s from)

  abbrev bytes_from : ℕ → ℕ → Laid → List ℕ
  bytes_from i from laid = bytes_of_all (tensor_bytes k) (laid_from a laid (left_from i from))

  -- how far the loop is
  pub record Going (o out : List ℕ) (at from : ℕ) (laid : Laid) (i : ℕ) (whole : List ℕ) : Type 0 where
    pub below : i ≤ m
    pub all : is_accepted (run (times (m - i) tensor) s from) ≡ true
    pub fits : gives tt ≡ laid_of (layout_from a laid i (map piece_of (left_from i from)))
    pub part : Part o out at (bytes_from i from laid) whole

  -- at the start all is left
  pub going_start : (o : List ℕ) (first : ℕ) → is_accepted (run (times m tensor) s first) ≡ true → gives tt ≡ laid_of (layout_of a (map piece_of (got (run (times m tensor) s first))))
      → Going o o 0 first nothing_laid 0 (bytes_of_all (tensor_bytes k) (laid_from a nothing_laid (got (run (times m tensor) s first))))
  going_start o first all fits =
      let z : m - 0 ≡ m = omega arith in
      record { below = omega arith; all = rw z all; fits = rw z fits; part = rw z (part-start o (bytes_of_all (tensor_bytes k) (laid_from a nothing_laid (got (run (times m tensor) s first))))) }

  module _ {o out : List ℕ} {at from : ℕ} {laid : Laid} {i : ℕ} {whole : List ℕ} (g : Going o out at from laid i whole) where
    pub going_none : i < m → {w p : ℕ} → refused w p ≡ run tensor s from → ⊥
    going_none below e = times-never tensor s from m i below e g.all

    -- at the end nothing is
    pub going_end : m ≤ i → Wrote whole o out at
    unfolding bytes_of_all
    going_end done = part_end g.part (ap (λ r. bytes_of_all (tensor_bytes k) (laid_from a laid (got r))) (times-ends tensor s from m i done))

    pub going_within : length whole ≤ length o → at ≤ length out
    going_within room = let r = part_room g.part room in omega arith

    module _ (below : i < m) {t : SheetTensor} {q : ℕ} (e : accepted t q ≡ run tensor s from) where
      next-left : left_from i from ≡ t ∷ left_from (i + 1) q
      next-left = times-got tensor s from m i below e g.all

      going_refused : {w : ℕ} → place_of a laid (lengths t.parts.shape) t.parts.kind ≡ Err w → ⊥
      going_refused r =
          let f = rw (next-left, layout_stops a laid i (piece_of t) (map piece_of (left_from (i + 1) q)) r) at g.fits in
          let z : ◌≡◌ {A = ℕ} 0 1 = cc in
          omega arith

      bytes_left : bytes_from i from laid ≡ tensor_bytes k (content_at t laid.next) ++ bytes_from (i + 1) q (laid_with a laid t)
      unfolding bytes_of_all
      bytes_left = ap (λ l. bytes_of_all (tensor_bytes k) (laid_from a laid l)) next-left

      own_room : length whole ≤ length o → at + (size_width k + length t.name + shape_size t.parts.shape.dimensions + 12) ≤ length out
      own_room room =
          let r = part_room g.part room in
          let b = ap length bytes_left ∙ length-append (tensor_bytes k (content_at t laid.next)) _ in
          let c = tensor-length k (content_at t laid.next) in
          omega arith

      goes_on : {offset size : ℕ} {after : Laid} → place_of a laid (lengths t.parts.shape) t.parts.kind ≡ Ok (record { offset = offset; size = size; laid = after })
          → (ys : List ℕ) (n : ℕ) → Wrote (tensor_bytes k (content_at t offset)) (mid_of at (length out - at) out) ys n → length ys ≡ length (mid_of at (length out - at) out)
          → Going o (put_mid at (length out - at) out ys) (at + n) q after (i + 1) whole
      goes_on {offset} {size} {after} r ys n w same =
          let p = placed_by a laid (lengths t.parts.shape) t.parts.kind r in
          let f = rw (next-left, layout_goes_on a laid i (piece_of t) (map piece_of (left_from (i + 1) q)) r) at g.fits in
          record {
            below = omega arith;
            all = times-accepted tensor s from m i below e g.all;
            fits = f ∙ laid-ahead offset (layout_from a after (suc i) (map piece_of (left_from (i + 1) q))) ∙ ap (λ j. laid_of (layout_from a after j (map piece_of (left_from (i + 1) q)))) (sym (add-one i));
            part = rw p.then (part-turn _ _ ys n g.part bytes_left (rw p.offset at w) same);
          }

      -- the same, as the code has its parts x
      module _ (x : TensorParts) (told : x ≡ t.parts) where
        placed_alike : place_of a laid (lengths t.parts.shape) t.parts.kind ≡ place_of a laid (lengths x.shape) x.kind
        placed_alike = ap (λ (y : TensorParts). place_of a laid (lengths y.shape) y.kind) (sym told)

        pub never-refused : {w : ℕ} → place_of a laid (lengths x.shape) x.kind ≡ Err w → ⊥
        never-refused r = going_refused (placed_alike ∙ r)

        pub going_room : length whole ≤ length o → at + (size_width k + length (inside_of s x.name) + shape_size x.shape.dimensions + 12) ≤ length out
        going_room room = rw (told, name-stands s from e) (own_room room)

        written-alike : {offset : ℕ} → ◌≡◌ {A = TensorContent} (content_of (inside_of s x.name) x.shape x.kind offset) (content_at t offset)
        written-alike = rw (told, name-stands s from e)

        pub going_on : {offset size : ℕ} {after : Laid} → place_of a laid (lengths x.shape) x.kind ≡ Ok (record { offset = offset; size = size; laid = after })
            → (ys : List ℕ) (n : ℕ) → Wrote (tensor_bytes k (content_of (inside_of s x.name) x.shape x.kind offset)) (mid_of at (length out - at) out) ys n
            → length ys ≡ length (mid_of at (length out - at) out) → Going o (put_mid at (length out - at) out ys) (at + n) q after (i + 1) whole
        going_on r ys n w same = goes_on (placed_alike ∙ r) ys n (rw written-alike at w) same
