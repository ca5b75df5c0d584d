-- A reader with ceilings answers what the reader of the whole format does, up to the first version
-- or kind above them. Assumes nothing.
use Prim.Native.Nat.{ℕ, ◌≤◌}
use mathlib.Core.Path.{◌≡◌, sym, ap, ◌∙◌}
use mathlib.Core.List.{List}
use mathlib.Core.Bool.{true, false}
use native.Mathlib.Omega.{arith}
use lib.ListN.{length}
use Rattle.reading.specs.Ceilings.{too_new, Mark, marks, or_too_new, all_within, FirstAbove, Low, full}
use Rattle.reading.specs.Reading.{Reading, accepted, refused, run, seen}
use Rattle.reading.proofs.CeilingLaws.{ceilings, unhindered, first-refused, first_above, let_through, low_run, low_bind, low-here, low-each}
use Rattle.header.specs.Answers.{reader_run, Outcome, outcome_of, reader_outcome}
use Rattle.values.proofs.ValueMarks.{low-entry}
use Rattle.tensors.proofs.TensorMarks.{low-tensor}
use Rattle.header.specs.Format.{FullHeader, header}
use Rattle.header.proofs.Judged.{low-judged}
use Rattle.start.specs.declared.Rooms.{Rooms}
use Rattle.reading.specs.declared.Limits.{Limits}
use Rattle.start.proofs.StartMarks.{low-start}

module _ (l : Limits) (versions : 3 ≤ l.versions) (kinds : 39 ≤ l.kinds) where
  pub low-header : (rooms : Rooms) (cap : ℕ) → Low l (header rooms cap)
  unfolding header
  low-header rooms cap =
      low_bind l _ _ (low-start l versions rooms) (λ c. low_bind l _ _ (low-each l _ _ (λ z. low-entry l c.dialect cap) c.entries tt) (λ es.
      low_bind l _ _ (low-each l _ _ (low-tensor l kinds c.dialect) c.tensors 0) (λ ts. low_bind l _ _ (low-here l) (λ e.
      low-judged c es ts e l))))

-- the program of a reader with these tables
abbrev pub tabled : ℕ → List (List ℕ) → List (List ℕ) → Reading FullHeader
tabled cap es ts = header (record { entries = length es; tensors = length ts }) cap

module _ (cap : ℕ) (es ts : List (List ℕ)) (s : List ℕ) where
  -- with any ceilings the reader refuses at the first version or kind above them, if there is one,
  -- and else answers what the format's own program does
  pub up_to_ceilings : (l : Limits) → reader_run l cap es ts s ≡ or_too_new l (marks (tabled cap es ts) s 0) (run (tabled cap es ts) s 0)
  up_to_ceilings l = ceilings l (tabled cap es ts) s 0

  -- ceilings that no version and no kind of the format is above change nothing
  pub no_ceilings : (l : Limits) → 3 ≤ l.versions → 39 ≤ l.kinds → reader_run l cap es ts s ≡ run (tabled cap es ts) s 0
  no_ceilings l v k = low_run l (tabled cap es ts) (low-header l v k _ cap) s 0

  -- so the full reader answers what the format's own program does
  pub full_reader : reader_run full cap es ts s ≡ run (tabled cap es ts) s 0
  full_reader = no_ceilings full (omega arith) (omega arith)

  -- and a reader with any ceilings what the full reader does, up to the first version or kind above
  -- them
  pub below-ceilings : (l : Limits) → reader_run l cap es ts s ≡ or_too_new l (marks (tabled cap es ts) s 0) (reader_run full cap es ts s)
  below-ceilings l = up_to_ceilings l ∙ ap (or_too_new l (marks (tabled cap es ts) s 0)) (sym full_reader)

  -- what it accepts, the full reader accepts
  pub accepted-below : (l : Limits) {w : FullHeader} {q : ℕ} → accepted w q ≡ reader_run l cap es ts s → accepted w q ≡ reader_run full cap es ts s
  accepted-below l e = let_through l (marks (tabled cap es ts) s 0) _ (e ∙ below-ceilings l)

-- The same of what a call comes to: its answer and both tables.

-- the versions and kinds that the full reader reaches and finds known, in order, each with its
-- place
abbrev pub found_known : ℕ → List (List ℕ) → List (List ℕ) → List ℕ → List Mark
found_known cap es ts s = marks (tabled cap es ts) s 0

-- the mark k is refused, by number (5 for a version, 12 for a kind) and place, and both tables are
-- as they were
abbrev pub refused_for : Mark → List (List ℕ) → List (List ℕ) → Outcome
refused_for k es ts = record { answer = refused (too_new k.which) k.place; entries = es; tensors = ts }

module _ (l : Limits) (cap : ℕ) (es ts : List (List ℕ)) (s : List ℕ) where
  -- where no version or kind that the full reader finds known is above the ceilings, a reader comes
  -- to what the full reader does, accepted or refused
  pub ceilings_keep : all_within l (found_known cap es ts s) ≡ true → reader_outcome l cap es ts s ≡ reader_outcome full cap es ts s
  ceilings_keep low = ap (outcome_of es ts) (unhindered l (tabled cap es ts) s 0 low ∙ sym (full_reader cap es ts s))

  -- at the first that is above them it refuses
  pub refused-first : {k : Mark} → FirstAbove l (found_known cap es ts s) k → reader_outcome l cap es ts s ≡ refused_for k es ts
  unfolding seen
  refused-first h = ap (outcome_of es ts) (up_to_ceilings cap es ts s l ∙ first-refused l (found_known cap es ts s) _ h)

  -- and otherwise there is a first that is above them, and there it refuses
  pub ceilings-refuse : all_within l (found_known cap es ts s) ≡ false → (k : Mark) × FirstAbove l (found_known cap es ts s) k × (reader_outcome l cap es ts s ≡ refused_for k es ts)
  ceilings-refuse high = let f = first_above l (found_known cap es ts s) high in (f.0, f.1, refused-first f.1)
