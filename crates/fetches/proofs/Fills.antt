-- The table of answers, from one row to the next, and what a refusal leaves of it. Assumes nothing.
use Prim.Native.Nat.{ℕ, suc, ◌+◌, ◌-◌, ◌≤◌, ◌<◌}
use mathlib.Core.Path.{◌≡◌, refl, ap, ◌∙◌}
use mathlib.Core.Bool.{true}
use mathlib.Core.List.{List, [], ◌++◌, map, map-id}
use native.Mathlib.Omega.{arith}
use native.Mathlib.Numerals.{add-one}
use native.Mathlib.Nat.{sub-zero}
use lib.ListN.{length, take, drop, get_or, set, length-map, take-append-drop, drop_of_length-le}
use lib.Seq.{drop-cons}
use borrow.Author.Tests.{le-leb, lt-leb}
use Rattle.reading.specs.Replies.{gives, refuses}
use Rattle.reading.specs.Back.{got, same}
use Rattle.reading.specs.Each.{filled}
use Rattle.reading.specs.Reading.{Answer, accepted, refused, is_accepted, seen}
use Rattle.reading.proofs.Repetition.{row_cons}
use Rattle.fetches.specs.Trace.{fetches}
use Rattle.fetches.specs.Replay.{answer_of, replayed, reply_to}
use Rattle.fetches.specs.declared.Fetch.{Fetch}

module _ (g : List ℕ → ℕ) (rows : List (List ℕ)) where
  -- the table, where the first i rows have their answers, once the others have theirs
  abbrev pub filled_from : ℕ → List ℕ → List ℕ
  filled_from i table = take i table ++ (map g (drop i rows) ++ drop (length rows - i) (drop i table))

  pub fill_begins : (table : List ℕ) → map g rows ++ drop (length rows) table ≡ filled_from 0 table
  fill_begins table = rw (sub-zero (length rows))

  pub fill_turns : (i : ℕ) (table : List ℕ) → i < length rows → i < length table → filled_from i table ≡ filled_from (i + 1) (set table i (g (get_or rows i [])))
  fill_turns i table h t =
      let k : length rows - i ≡ suc (length rows - suc i) = omega arith in
      rw (k, drop-cons rows i [] h, add-one) (rw add-one at (row_cons table i (g (get_or rows i [])) (map g (drop (suc i) rows)) (length rows - suc i) t))

  pub fill_ends : (i : ℕ) (table : List ℕ) → i ≡ length rows → filled_from i table ≡ table
  fill_ends i table h =
      let k : length rows - i ≡ 0 = omega arith in
      rw (k, drop_of_length-le rows {i = i} (omega arith)) (take-append-drop i table)

module _ (rows : List (List ℕ)) (start file : ℕ) where
  -- the answers of all rows, of what a trace fetched
  abbrev pub all_of : List Fetch → List ℕ
  all_of l = map (answer_of start file l) rows

  all-by : (r : Answer (List Fetch)) (old : List ℕ) → is_accepted r ≡ true → filled same old (seen all_of r) ≡ all_of (got r) ++ drop (length rows) old
  unfolding seen
  all-by (accepted l q) old h = rw (map-id (all_of l), length-map rows (answer_of start file l))
  all-by (refused n p) old h = let z : ◌≡◌ {A = ℕ} 0 1 = cc in absurd (omega arith)

  -- what is replayed where there is room
  pub with_room : (s : List ℕ) {room : ℕ} → length rows ≤ room → replayed rows start file s room ≡ seen all_of (fetches s)
  unfolding replayed
  with_room s {room} h = rw (le-leb (length rows) room h)

  module _ (s old : List ℕ) where
    -- the table after all rows
    pub all-written : length rows ≤ length old → is_accepted (fetches s) ≡ true
        → filled same old (replayed rows start file s (length old)) ≡ map (answer_of start file (got (fetches s))) rows ++ drop (length rows) old
    all-written h a = ap (filled same old) (with_room s h) ∙ all-by (fetches s) old a

    -- no room: its refusal, and the table as it was
    pub no_room : length old < length rows → (refuses 45 0 ≡ reply_to (replayed rows start file s (length old))) × (old ≡ filled same old (replayed rows start file s (length old)))
    unfolding replayed
    no_room h = rw (lt-leb (length rows) (length old) h) (refl, refl)

  -- the answers, where a trace is accepted
  pub got-all : (r : Answer (List Fetch)) → is_accepted r ≡ true → got (seen all_of r) ≡ all_of (got r)
  unfolding seen
  got-all (accepted l q) h = refl
  got-all (refused n p) h = let z : ◌≡◌ {A = ℕ} 0 1 = cc in absurd (omega arith)

  refused-by : (r : Answer (List Fetch)) (old : List ℕ) (n p : ℕ) → refuses n p ≡ reply_to r → (refuses n p ≡ reply_to (seen all_of r)) × (old ≡ filled same old (seen all_of r))
  unfolding seen
  refused-by (accepted l q) old n p e = let z : ◌≡◌ {A = ℕ} 0 1 = cc in absurd (omega arith)
  refused-by (refused m o) old n p e = (e, refl)

  answered-by : (r : Answer (List Fetch)) → gives tt ≡ reply_to r → (is_accepted r ≡ true) × (gives tt ≡ reply_to (seen all_of r))
  unfolding seen
  answered-by (accepted l q) e = (refl, refl)
  answered-by (refused n p) e = let z : ◌≡◌ {A = ℕ} 0 1 = cc in absurd (omega arith)

  module _ (s old : List ℕ) (h : length rows ≤ length old) where
    -- a trace that is refused: likewise
    pub trace-refused : (n p : ℕ) → refuses n p ≡ reply_to (fetches s) → (refuses n p ≡ reply_to (replayed rows start file s (length old))) × (old ≡ filled same old (replayed rows start file s (length old)))
    trace-refused n p e = rw (with_room s h) (refused-by (fetches s) old n p e)

    -- a trace that is well formed: all is answered
    pub trace-answered : gives tt ≡ reply_to (fetches s) → (is_accepted (fetches s) ≡ true) × (gives tt ≡ reply_to (replayed rows start file s (length old)))
    trace-answered e = rw (with_room s h) (answered-by (fetches s) e)
