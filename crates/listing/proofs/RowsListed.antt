-- The rows that a header counts are those of its records, and the text of them is its listing.
-- Assumes nothing.
use Prim.Native.Nat.{ℕ, ◌-◌, ◌≤◌}
use mathlib.Core.Path.{◌≡◌, refl, sym, ap, subst, ◌∙◌}
use mathlib.Core.List.{List, ◌++◌, map}
use native.Mathlib.Nat.{sub-zero}
use lib.ListN.{length, drop, length-map}
use lib.Seq.{take_at}
use borrow.Rule.Slice.PartMut.{mid_of}
use Rattle.reading.specs.Each.{filled}
use Rattle.reading.specs.Reading.{accepted, refused, seen}
use Rattle.reading.proofs.Repetition.{seen-accepted, seen-refused}
use Rattle.values.specs.Rows.{entry_row}
use Rattle.tensors.specs.Rows.{tensor_row}
use Rattle.reading.specs.Ceilings.{full}
use Rattle.header.specs.Answers.{reader_run}
use Rattle.header.specs.Format.{FullHeader}
use Rattle.header.specs.declared.Header.{Header}
use Rattle.start.specs.declared.Rooms.{Rooms}
use Rattle.header.proofs.Counted.{Counted, counted}
use Rattle.listing.specs.Text.{refusal_line, lines_of, text_of, listing_in}

-- the first rows of a table that was filled
pub first_rows : {A B : Type 0} (row : A → B) (l : List A) (n : ℕ) (old : List B) → length l ≡ n → mid_of 0 (n - 0) (map row l ++ drop (length l) old) ≡ map row l
first_rows row l n old e = rw (sub-zero n) (take_at (map row l) (drop (length l) old) n (length-map l row ∙ e))

module _ (s : List ℕ) (es ts : List (List ℕ)) where
  abbrev rooms : Rooms
  rooms = record { entries = length es; tensors = length ts }

  -- the header that a reader with so many rows tells of
  abbrev pub Told : Header → ℕ → Type 0
  Told h q = accepted h q ≡ seen (λ w. w.head) (reader_run full 3 es ts s)

  -- what else was read with it
  pub record With (h : Header) (q : ℕ) : Type 0 where
    pub whole : FullHeader
    pub read : accepted whole q ≡ reader_run full 3 es ts s
    pub same : h ≡ whole.head
    pub counted : Counted rooms whole

  pub whole_of : {h : Header} {q : ℕ} → Told h q → With h q
  whole_of {q = q} e =
      let w = seen-accepted _ _ _ _ e in
      record { whole = w.0; read = w.1; same = w.2; counted = counted full 3 es ts s w.1 }

  pub entries-inside : {h : Header} {q : ℕ} → Told h q → h.entries ≤ length es
  entries-inside e = let w = whole_of e in rw w.same w.counted.entry_room

  pub tensors-inside : {h : Header} {q : ℕ} → Told h q → h.tensors ≤ length ts
  tensors-inside e = let w = whole_of e in rw w.same w.counted.tensor_room

  lines-of : (w : FullHeader) {q : ℕ} {E T : List (List ℕ)} → accepted w q ≡ reader_run full 3 es ts s → Counted rooms w → E ≡ filled entry_row es (seen (λ x. x.entries) (reader_run full 3 es ts s))
      → T ≡ filled tensor_row ts (seen (λ x. x.tensors) (reader_run full 3 es ts s)) → lines_of s w.head (mid_of 0 (w.head.entries - 0) E) (mid_of 0 (w.head.tensors - 0) T) ≡ listing_in rooms s
  unfolding listing_in text_of seen
  lines-of w {E = E} {T} read counted f g =
      let es' : E ≡ map entry_row w.entries ++ drop (length w.entries) es = f ∙ ap (λ r. filled entry_row es (seen (λ (x : FullHeader). x.entries) r)) (sym read) in
      let ts' : T ≡ map tensor_row w.tensors ++ drop (length w.tensors) ts = g ∙ ap (λ r. filled tensor_row ts (seen (λ (x : FullHeader). x.tensors) r)) (sym read) in
      rw (es', ts', first_rows entry_row w.entries w.head.entries es counted.entries, first_rows tensor_row w.tensors w.head.tensors ts counted.tensors) (ap (text_of s) read)

  -- the lines of the rows that are counted are the listing
  pub lines-listed : {h : Header} {q : ℕ} {E T : List (List ℕ)} → Told h q → E ≡ filled entry_row es (seen (λ w. w.entries) (reader_run full 3 es ts s))
      → T ≡ filled tensor_row ts (seen (λ w. w.tensors) (reader_run full 3 es ts s)) → lines_of s h (mid_of 0 (h.entries - 0) E) (mid_of 0 (h.tensors - 0) T) ≡ listing_in rooms s
  lines-listed {E = E} {T} e f g =
      let w = whole_of e in
      subst (λ h. lines_of s h (mid_of 0 (h.entries - 0) E) (mid_of 0 (h.tensors - 0) T) ≡ listing_in rooms s) (sym w.same) (lines-of w.whole w.read w.counted f g)

  pub refusal-listed : {n p : ℕ} → refused n p ≡ seen (λ w. w.head) (reader_run full 3 es ts s) → refusal_line n p ≡ listing_in rooms s
  unfolding listing_in text_of
  refusal-listed e = let g = seen-refused _ _ _ _ e in rw (← g) refl
