-- What the writer wrote is never refused for its offsets: with rows enough it is read, and neither
-- fewer rows nor ceilings make a reader refuse it by 16. Assumes nothing.
use Prim.Native.Nat.{ℕ, ◌+◌, ◌^◌, ◌<◌}
use mathlib.Core.Path.{◌≡◌, refl, sym, ap, ◌∙◌}
use mathlib.Core.List.{List, [], ◌++◌}
use mathlib.Core.Logic.{inl, inr}
use native.Mathlib.Omega.{arith}
use lib.ListN.{length, replicate, length-replicate}
use Rattle.writer.specs.Output.{written_at}
use Rattle.reading.specs.Back.{All}
use Rattle.reading.specs.Ceilings.{too_new, under, marks}
use Rattle.reading.specs.Reading.{Which, a_version, a_kind, accepted, refused, run}
use Rattle.reading.specs.declared.Limits.{Limits}
use Rattle.reading.proofs.CeilingLaws.{ceilings, refused-below}
use Rattle.reading.proofs.Repetition.{seen-accepted, seen-refused}
use Rattle.fields.specs.Bytes.{Byte}
use Rattle.values.specs.declared.Dialect.{Dialect}
use Rattle.start.specs.declared.Rooms.{Rooms}
use Rattle.header.specs.Answers.{reader_outcome}
use Rattle.header.specs.Format.{FullHeader, header}
use Rattle.header.proofs.HeaderCeilings.{full_reader}
use Rattle.header.proofs.MoreRows.{ButForSix, more_rows}
use Rattle.promises.specs.Back.{answer_for, output_for, contents_for}
use Rattle.promises.proofs.WrittenReadsBack.{written-reads-back}

-- 16 is not the refusal of what is too new
not_too_new : (x : Which) → 16 ≡ too_new x → ⊥
not_too_new a_version e = omega arith
not_too_new a_kind e = omega arith

-- the rooms of tables by their lengths
rooms_of : (es ts : List (List ℕ)) {n m : ℕ} → length es ≡ n → length ts ≡ m → ◌≡◌ {A = Rooms} (record { entries = length es; tensors = length ts }) (record { entries = n; tensors = m })
rooms_of es ts e t = rw (e, t) refl

-- For any record sheet, version, byte order, alignment and output, where the header was written, and
-- whatever follows it.
module _ (k : Dialect) (a : ℕ) (s out : List ℕ) (bytes : All Byte s) (small : length out < 2 ^ 64) {end start : ℕ} (wrote : written_at end start ≡ answer_for k a s out) (r : List ℕ) where
  -- so many rows and, beside them, one for each record
  abbrev enough_with : Rooms → Rooms
  enough_with rooms = record { entries = rooms.entries + length (contents_for a s).entries; tensors = rooms.tensors + length (contents_for a s).tensors }

  abbrev empty_rows : ℕ → List (List ℕ)
  empty_rows n = replicate n []

  readable : (rooms : Rooms) (cap : ℕ) → (w : FullHeader) × (accepted w end ≡ run (header (enough_with rooms) cap) (output_for k a s out ++ r) 0)
  readable rooms cap =
      let es = empty_rows (enough_with rooms).entries in
      let ts = empty_rows (enough_with rooms).tensors in
      let e : length es ≡ (enough_with rooms).entries = length-replicate (enough_with rooms).entries [] in
      let t : length ts ≡ (enough_with rooms).tensors = length-replicate (enough_with rooms).tensors [] in
      let back = written-reads-back k a s out bytes small wrote cap es ts (record { entries = omega arith; tensors = omega arith }) r in
      let w = seen-accepted _ _ _ _ (sym back) in
      (w.0, w.1 ∙ full_reader cap es ts (output_for k a s out ++ r) ∙ ap (λ x. run (header x cap) (output_for k a s out ++ r) 0) (rooms_of es ts e t))

  never-by : (rooms : Rooms) (cap : ℕ) {p : ℕ} → refused 16 p ≡ run (header rooms cap) (output_for k a s out ++ r) 0
      → ButForSix (run (header rooms cap) (output_for k a s out ++ r) 0) (run (header (enough_with rooms) cap) (output_for k a s out ++ r) 0) → ⊥
  never-by rooms cap e (inl f) =
      let w = readable rooms cap in
      let read = w.1 in
      let z : ◌≡◌ {A = ℕ} 0 1 = cc in
      omega arith
  never-by rooms cap e (inr (q, f)) =
      let z : ◌≡◌ {A = ℕ} 16 6 = cc in
      omega arith

  -- no reader refuses it 16, whatever its ceilings, its rows and its cap
  pub never-16 : (limits : Limits) (rooms : Rooms) (cap : ℕ) {p : ℕ} → refused 16 p ≡ run (under limits (header rooms cap)) (output_for k a s out ++ r) 0 → ⊥
  never-16 limits rooms cap e =
      let m = header rooms cap in
      let plain = refused-below limits (marks m (output_for k a s out ++ r) 0) _ not_too_new (e ∙ ceilings limits m (output_for k a s out ++ r) 0) in
      never-by rooms cap plain (more_rows (output_for k a s out ++ r) rooms (enough_with rooms) (omega arith) (omega arith) cap)

  -- so no call of `header::read` over it is answered 16, with any tables
  pub written-never-16 : (limits : Limits) (cap : ℕ) (es ts : List (List ℕ)) {p : ℕ} → refused 16 p ≡ (reader_outcome limits cap es ts (output_for k a s out ++ r)).answer → ⊥
  written-never-16 limits cap es ts e = never-16 limits (record { entries = length es; tensors = length ts }) cap (seen-refused _ _ _ _ e)
