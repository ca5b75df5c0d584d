-- The text of a replay is that of what it answered, and its rows are those of the header. Assumes
-- nothing.
use Prim.Native.Nat.{ℕ, ◌-◌, ◌/◌, ◌≤◌}
use mathlib.Core.Path.{◌≡◌, refl, sym, ap, subst, ◌∙◌}
use mathlib.Core.Bool.{true}
use mathlib.Core.List.{List, ◌++◌, map, map-id}
use native.Mathlib.Omega.{arith}
use lib.ListN.{length, drop}
use borrow.Rule.Slice.PartMut.{mid_of}
use Rattle.reading.specs.Replies.{gives, refuses}
use Rattle.reading.specs.Back.{got, same}
use Rattle.reading.specs.Ceilings.{full}
use Rattle.reading.specs.Each.{filled}
use Rattle.reading.specs.Reading.{Answer, accepted, refused, is_accepted, seen}
use Rattle.reading.proofs.Repetition.{seen-refused}
use Rattle.tensors.specs.Rows.{tensor_row}
use Rattle.header.specs.Answers.{reader_run}
use Rattle.header.specs.Format.{FullHeader}
use Rattle.header.specs.declared.Header.{Header}
use Rattle.listing.specs.Text.{refusal_line}
use Rattle.listing.proofs.RowsListed.{Told, first_rows, whole_of}
use Rattle.fetches.specs.Replay.{replayed, reply_to}
use Rattle.fetches.specs.Trace.{fetches}
use Rattle.fetches.proofs.Records.{answered}
use Rattle.fetches.proofs.Tables.{answers_fit, answers_count, records-count}
use Rattle.fetch_listing.specs.Text.{lines_of, replay_text, replay_over, fetch_text}

-- what a call answered, as text
module _ (s : List ℕ) (rows : List (List ℕ)) (old trace : List ℕ) where
  lines-by : (r : Answer (List ℕ)) {table : List ℕ} {n : ℕ} → is_accepted r ≡ true → length (got r) ≡ length rows → table ≡ filled same old r → n ≡ length (got (fetches trace))
      → lines_of n s rows (mid_of 0 (length rows - 0) table) ≡ replay_text s rows trace r
  unfolding replay_text
  lines-by (accepted l q) h count e f = rw (e, first_rows same l (length rows) old count, map-id l, f)
  lines-by (refused n p) h count e f = let z : ◌≡◌ {A = ℕ} 0 1 = cc in absurd (omega arith)

  refusal-by : (r : Answer (List ℕ)) {n p : ℕ} → refuses n p ≡ reply_to r → refusal_line n p ≡ replay_text s rows trace r
  unfolding replay_text
  refusal-by (accepted l q) e = let z : ◌≡◌ {A = ℕ} 0 1 = cc in absurd (omega arith)
  refusal-by (refused m o) {n} {p} e =
      let i : n ≡ m = cc in
      let j : p ≡ o = cc in
      rw (i, j) refl

  module _ (start file : ℕ) where
    pub rows_fit : gives tt ≡ reply_to (replayed rows start file trace (length old)) → length rows ≤ length old
    rows_fit e = answers_fit rows start file (length old) trace (answered (replayed rows start file trace (length old)) (sym e))

    pub lines-replayed : {table : List ℕ} → gives tt ≡ reply_to (replayed rows start file trace (length old)) → table ≡ filled same old (replayed rows start file trace (length old))
        → lines_of (length trace / 20) s rows (mid_of 0 (length rows - 0) table) ≡ replay_text s rows trace (replayed rows start file trace (length old))
    lines-replayed e f =
        let a = answered (replayed rows start file trace (length old)) (sym e) in
        let long = records-count rows start file (length old) trace a in
        lines-by _ a (answers_count rows start file (length old) trace a) f (omega arith)

    pub refusal-replayed : {n p : ℕ} → refuses n p ≡ reply_to (replayed rows start file trace (length old)) → refusal_line n p ≡ replay_text s rows trace (replayed rows start file trace (length old))
    refusal-replayed e = refusal-by _ e

-- over the rows that a header counts
module _ (s : List ℕ) (es ts : List (List ℕ)) (file : ℕ) (trace : List ℕ) (room : ℕ) where
  -- what the rows T of so many tensors come to, from a start
  abbrev pub Comes : ℕ → List (List ℕ) → Type 0
  Comes start T =
      (replay_text s T trace (replayed T start file trace room) ≡ fetch_text s (reader_run full 3 es ts s) file trace room)
      × (replayed T start file trace room ≡ replay_over (reader_run full 3 es ts s) file trace room)

  comes-by : (w : FullHeader) {q : ℕ} → accepted w q ≡ reader_run full 3 es ts s → Comes w.head.start (map tensor_row w.tensors)
  unfolding replay_over seen
  comes-by w e = rw (← e) (refl, refl)

  pub comes : {h : Header} {q : ℕ} {T : List (List ℕ)} → Told s es ts h q → T ≡ filled tensor_row ts (seen (λ w. w.tensors) (reader_run full 3 es ts s)) → Comes h.start (mid_of 0 (h.tensors - 0) T)
  unfolding seen
  comes {h} {T = T} e f =
      let w = whole_of s es ts e in
      let table : T ≡ map tensor_row w.whole.tensors ++ drop (length w.whole.tensors) ts = f ∙ ap (λ r. filled tensor_row ts (seen (λ (x : FullHeader). x.tensors) r)) (sym w.read) in
      let rows : mid_of 0 (w.whole.head.tensors - 0) T ≡ map tensor_row w.whole.tensors = rw table (first_rows tensor_row w.whole.tensors w.whole.head.tensors ts w.counted.tensors) in
      subst (λ k. Comes k.start (mid_of 0 (k.tensors - 0) T)) (sym w.same) (rw rows (comes-by w.whole w.read))

  refused_all : (r : Answer FullHeader) {n p : ℕ} → refused n p ≡ r → (refusal_line n p ≡ fetch_text s r file trace room) × (refused n p ≡ replay_over r file trace room)
  unfolding replay_text replay_over
  refused_all r e = rw (← e) (refl, refl)

  -- a header that is refused
  pub not-read : {n p : ℕ} → refused n p ≡ seen (λ w. w.head) (reader_run full 3 es ts s)
      → (refusal_line n p ≡ fetch_text s (reader_run full 3 es ts s) file trace room) × (refused n p ≡ replay_over (reader_run full 3 es ts s) file trace room)
  not-read e = refused_all _ (seen-refused _ _ _ _ e)
