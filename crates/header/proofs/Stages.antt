-- The whole run after each of its stages: the start, the entries, the tensors, and the last tests.
-- Assumes nothing.
use Rattle.std.specs.Prelude.{if◌then◌else◌, Result, Ok, Err}
use Prim.Native.Nat.{ℕ, ◌<◌}
use mathlib.Core.Path.{◌≡◌, refl, sym, ap, subst, ◌∙◌}
use mathlib.Core.List.{List}
use mathlib.Core.Bool.{Bool, true, false}
use native.Mathlib.Omega.{arith}
use lib.Dec.{leb, eqb}
use Rattle.reading.specs.Ceilings.{under, marks}
use Rattle.reading.specs.Each.{each, times, fold}
use Rattle.reading.specs.Reading.{done, Answer, accepted, refused, run, ◌>>=◌, ◌>>◌, here, check, and_then, seen}
use Rattle.reading.proofs.CeilingLaws.{ceilings, let_through, under-each, run-under, low_run, low-each}
use Rattle.reading.proofs.SureLaws.{sure_under}
use Rattle.reading.proofs.Repetition.{seen-accepted, seen-refused}
use Rattle.kinds.specs.Shape.{greatest}
use Rattle.values.specs.Format.{entry}
use Rattle.tensors.specs.Format.{tensor, total_of}
use Rattle.values.proofs.ValueMarks.{low-entry}
use Rattle.layout.specs.Padding.{padded}
use Rattle.header.specs.Answers.{as_header}
use Rattle.header.specs.Steps.{noted, header_if_it_fits, header_after}
use Rattle.start.specs.Format.{start}
use Rattle.header.specs.Format.{latest, header_of, FullHeader, judged, header}
use Rattle.start.specs.declared.Rooms.{Rooms}
use Rattle.start.specs.declared.Start.{Start}
use Rattle.header.specs.declared.Header.{Header}
use Rattle.reading.specs.declared.Limits.{Limits}
use Rattle.values.specs.declared.Dialect.{Dialect}
use Rattle.values.specs.declared.Entry.{Entry}
use Rattle.tensors.specs.declared.Tensor.{Tensor}
use Rattle.reading.specs.declared.Refusal.{Refusal}
use Rattle.start.proofs.RowsForCounts.{Room, sure_start}
use Rattle.header.proofs.DataStart.{entries-alignment}
use Rattle.header.proofs.Judged.{header_with, low-judged}
use Rattle.header.proofs.Noted.{test_noted, as-noted}

module _ (l : Limits) (rooms : Rooms) (cap : ℕ) (s : List ℕ) where
  -- the run of the reader
  abbrev outcome : Answer FullHeader
  outcome = run (under l (header rooms cap)) s 0

  abbrev entries_from : Start → ℕ → Answer (List Entry)
  entries_from c p = run (times c.entries (entry c.dialect cap)) s p

  abbrev tensors_from : Start → ℕ → Answer (List Tensor)
  tensors_from c q = run (each (λ z. under l (tensor c.dialect z)) total_of c.tensors 0) s q

  -- the start says c, and the entries follow it at p
  abbrev pub Started : Start → ℕ → Type 0
  Started c p = accepted c p ≡ run (under l (start rooms)) s 0

  -- the entries from p on give the alignment a, and the tensors follow them at q
  abbrev pub Aligned : Start → ℕ → ℕ → ℕ → Type 0
  Aligned c p a q = accepted a q ≡ seen (fold latest 32) (entries_from c p)

  -- what is told of the header, where the tensors stand from q on and the alignment is a
  abbrev pub told : Start → ℕ → ℕ → Answer Header
  told c a q = header_after c a (seen (fold (noted a) 0) (tensors_from c q))

  -- tensors that no ceiling stopped
  let_tensors : (k : Dialect) (n p : ℕ) {ts : List Tensor} {e : ℕ} → accepted ts e ≡ run (each (λ z. under l (tensor k z)) total_of n 0) s p → accepted ts e ≡ run (each (tensor k) total_of n 0) s p
  let_tensors k n p f =
      let m = each (tensor k) total_of n 0 in
      let_through l (marks m s p) (run m s p) (f ∙ ap (λ x. run x s p) (sym (under-each l (tensor k) total_of n 0)) ∙ ceilings l m s p)

  -- entries have no ceiling
  under-entries : (k : Dialect) (n p : ℕ) → run (under l (times n (entry k cap))) s p ≡ run (times n (entry k cap)) s p
  under-entries k n p = low_run l (times n (entry k cap)) (low-each l _ _ (λ z. low-entry l k cap) n tt) s p

  -- refused at the start
  pub no_start : {n p : ℕ} → refused n p ≡ run (under l (start rooms)) s 0 → outcome ≡ refused n p
  unfolding header and_then
  no_start e = rw (run-under, ← e) refl

  -- refused at the entries
  pub no_entries : {c : Start} {p : ℕ} → Started c p → {n q : ℕ} → refused n q ≡ seen (fold latest 32) (entries_from c p) → outcome ≡ refused n q
  unfolding header and_then
  no_entries {c} {p} e f =
      let g = seen-refused _ _ _ _ f in
      rw (run-under, ← e, run-under, under-entries c.dialect c.entries p, ← g) refl

  -- what is left once all records were read
  to_end : {c : Start} {p : ℕ} → Started c p → {es : List Entry} {q : ℕ} → accepted es q ≡ entries_from c p → {ts : List Tensor} {e : ℕ} → accepted ts e ≡ tensors_from c q
      → outcome ≡ run (under l (judged c es ts e)) s e
  unfolding header here under run and_then
  to_end {c} {p} e f g =
      rw (run-under, ← e, run-under, under-entries c.dialect c.entries p, ← f, run-under, under-each l (tensor c.dialect), ← g, run-under) refl

  -- it is told by the place that was noted
  by-noted : (c : Start) (es : List Entry) (ts : List Tensor) (e : ℕ)
      → run (under l (judged c es ts e)) s e ≡ run (check (leb (padded (fold latest 32 es) e) greatest) 18 e >> (test_noted (fold (noted (fold latest 32 es)) 0 ts) >> done (header_with c es ts e))) s e
  by-noted c es ts e =
      low_run l (judged c es ts e) (low-judged c es ts e l) s e
      ∙ ap (λ x. run (check (leb (padded (fold latest 32 es) e) greatest) 18 e >> (x >> done (header_with c es ts e))) s e) (as-noted (fold latest 32 es) ts)

  -- the two last tests, where a header is told and where none is
  found_cases : (c : Start) (es : List Entry) (ts : List Tensor) (e m : ℕ) (b d : Bool) (h : Header) {o : ℕ}
      → accepted h o ≡ (if b then if d then accepted (header_of c (fold latest 32 es) e) e else refused 16 m else refused 18 e)
      → run (check b 18 e >> (check d 16 m >> done (header_with c es ts e))) s e ≡ accepted (record { head = h; entries = es; tensors = ts }) h.end
  unfolding run ◌>>=◌
  found_cases c es ts e m true true h f = let i : h ≡ header_of c (fold latest 32 es) e = cc in rw i refl
  found_cases c es ts e m true false h f = let z : ◌≡◌ {A = ℕ} 0 1 = cc in absurd (omega arith)
  found_cases c es ts e m false d h f = let z : ◌≡◌ {A = ℕ} 0 1 = cc in absurd (omega arith)

  none_cases : (w : FullHeader) (e m : ℕ) (b d : Bool) {n u : ℕ} → refused n u ≡ (if b then if d then accepted w.head e else refused 16 m else refused 18 e)
      → run (check b 18 e >> (check d 16 m >> done w)) s e ≡ refused n u
  unfolding run ◌>>=◌
  none_cases w e m true true f = let z : ◌≡◌ {A = ℕ} 0 1 = cc in absurd (omega arith)
  none_cases w e m true false f = cc
  none_cases w e m false d f = cc

  -- what is known where a header is told
  pub record Passed (c : Start) (p q : ℕ) (h : Header) : Type 0 where
    pub es : List Entry
    pub ts : List Tensor
    pub end : ℕ
    pub entries : accepted es q ≡ entries_from c p
    pub tensors : accepted ts end ≡ run (each (tensor c.dialect) total_of c.tensors 0) s q
    pub all : outcome ≡ accepted (record { head = h; entries = es; tensors = ts }) h.end
    pub room : Room rooms c

  module _ {c : Start} {p : ℕ} (began : Started c p) {a q : ℕ} (aligned : Aligned c p a q) where
    -- the entries, and the alignment that they give
    abbrev es : List Entry
    es = (seen-accepted _ _ _ _ aligned).0

    same : a ≡ fold latest 32 es
    same = (seen-accepted _ _ _ _ aligned).2

    -- it is above 0
    pub above : 0 < a
    above = subst (λ x. 0 < x) (sym same) (entries-alignment c.dialect cap c.entries s p (seen-accepted _ _ _ _ aligned).1).above

    -- the place that is noted of tensors, and whether the data's start fits where they end at e
    abbrev place_of : List Tensor → ℕ
    place_of ts = fold (noted (fold latest 32 es)) 0 ts

    abbrev start_within : ℕ → Bool
    start_within e = leb (padded (fold latest 32 es) e) greatest

    -- what is told where the tensors ts end at e
    told_of : (ts : List Tensor) (e m : ℕ) → m ≡ fold (noted a) 0 ts → header_if_it_fits c a e m ≡ header_if_it_fits c (fold latest 32 es) e (place_of ts)
    told_of ts e m f = ap (header_if_it_fits c a e) f ∙ ap (λ x. header_if_it_fits c x e (fold (noted x) 0 ts)) same

    -- refused at the tensors
    at-tensors : {n u : ℕ} → refused n u ≡ tensors_from c q → outcome ≡ refused n u
    unfolding header and_then
    at-tensors g = rw (run-under, ← began, run-under, under-entries c.dialect c.entries p, ← (seen-accepted _ _ _ _ aligned).1, run-under, under-each l (tensor c.dialect), ← g) refl

    none-by : (r : Answer ℕ) → r ≡ seen (fold (noted a) 0) (tensors_from c q) → {n u : ℕ} → refused n u ≡ header_after c a r → outcome ≡ refused n u
    none-by (accepted m e) f {n} {u} t =
        let g = seen-accepted _ _ _ _ f in
        to_end began (seen-accepted _ _ _ _ aligned).1 g.1 ∙ by-noted c es g.0 e ∙ none_cases (header_with c es g.0 e) e (place_of g.0) (start_within e) (eqb (place_of g.0) 0) (t ∙ told_of g.0 e m g.2)
    none-by (refused w o) f {n} {u} t =
        let i : w ≡ n = cc in
        let j : o ≡ u = cc in
        rw (← i, ← j) (at-tensors (seen-refused _ _ _ _ f))

    found-by : (r : Answer ℕ) → r ≡ seen (fold (noted a) 0) (tensors_from c q) → {h : Header} {o : ℕ} → accepted h o ≡ header_after c a r → Passed c p q h
    found-by (accepted m e) f {h} t =
        let g = seen-accepted _ _ _ _ f in
        record {
          es = es;
          ts = g.0;
          end = e;
          entries = (seen-accepted _ _ _ _ aligned).1;
          tensors = let_tensors c.dialect c.tensors q g.1;
          all =
              to_end began (seen-accepted _ _ _ _ aligned).1 g.1 ∙ by-noted c es g.0 e
              ∙ found_cases c es g.0 e (place_of g.0) (start_within e) (eqb (place_of g.0) 0) h (t ∙ told_of g.0 e m g.2);
          room = (sure_under l (sure_start rooms s 0)).holds c p began;
        }
    found-by (refused w o) f t = let z : ◌≡◌ {A = ℕ} 0 1 = cc in absurd (omega arith)

    -- where no header is told the whole run is refused, and where one is told all is known
    pub no_header : {n u : ℕ} → refused n u ≡ told c a q → outcome ≡ refused n u
    no_header t = none-by _ refl t

    pub reached : {h : Header} {o : ℕ} → accepted h o ≡ told c a q → Passed c p q h
    reached t = found-by _ refl t

    -- what is told is what the whole run says of the header
    pub all_told : (r : Result Header Refusal) → as_header r ≡ told c a q → as_header r ≡ seen (λ w. w.head) outcome
    unfolding seen
    all_told (Ok h) t = rw (reached t).all refl
    all_told (Err e) t = rw (no_header t) refl
