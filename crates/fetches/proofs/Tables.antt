-- The same of a call, its answer and the table that it leaves: what each answer tells of its row, and
-- what a longer trace changes. Assumes nothing.
use Rattle.reading.specs.Replies.{Reply, gives}
use Rattle.std.specs.Prelude.{if◌then◌else◌}
use Prim.Native.Nat.{ℕ, zero, suc, ◌+◌, ◌*◌, ◌^◌, ◌≤◌, ◌<◌}
use mathlib.Core.Path.{◌≡◌, refl, sym, ap, ◌∙◌}
use mathlib.Core.Bool.{Bool, true, false}
use mathlib.Core.List.{List, [], ◌∷◌, ◌++◌, map}
use native.Mathlib.Omega.{arith}
use lib.Dec.{leb}
use lib.ListN.{length, drop, get_or, length-map, get_or-append}
use borrow.Author.Tests.{leb-true}
use Rattle.reading.specs.Back.{got, same}
use Rattle.reading.specs.Each.{filled}
use Rattle.reading.specs.Reading.{Answer, accepted, refused, is_accepted, seen}
use Rattle.reading.proofs.RunLaws.{accepted-seen}
use Rattle.rows.specs.Columns.{offset_in, size_in}
use Rattle.fetches.specs.Trace.{fetches}
use Rattle.fetches.specs.Replay.{never, answer_of, replayed, reply_to}
use Rattle.fetches.proofs.Fills.{all_of, got-all, with_room, all-written}
use Rattle.fetches.proofs.Longer.{doubled, begins, further, again, accepted-again, among-again}
use Rattle.fetches.proofs.Meaning.{Complete, Told, told, never-told}
use Rattle.fetches.proofs.Records.{whole, answered}

item_of : (f : List ℕ → ℕ) (rows : List (List ℕ)) (i : ℕ) → i < length rows → get_or (map f rows) i 0 ≡ f (get_or rows i [])
item_of f [] i h = absurd (omega arith)
item_of f (row ∷ rows) zero h = refl
item_of f (row ∷ rows) (suc i) h = item_of f rows i (omega arith)

same-items : (f g : List ℕ → ℕ) → ((row : List ℕ) → f row ≡ g row) → (rows : List (List ℕ)) → map f rows ≡ map g rows
same-items f g e [] = refl
same-items f g e (row ∷ rows) = rw (e row, same-items f g e rows)

-- what is accepted is answered
reply-accepted : {A : Type 0} (r : Answer A) → is_accepted r ≡ true → reply_to r ≡ gives tt
reply-accepted (accepted a q) h = refl
reply-accepted (refused n p) h = let z : ◌≡◌ {A = ℕ} 0 1 = cc in absurd (omega arith)

has_room : (t : Bool) (r : Answer (List ℕ)) → is_accepted (if t then r else refused 45 0) ≡ true → t ≡ true
has_room true r h = refl
has_room false r h = let z : ◌≡◌ {A = ℕ} 0 1 = cc in absurd (omega arith)

-- what is replayed: there is room, the trace is a byte and its records, and each row has an answer
module _ (rows : List (List ℕ)) (start file room : ℕ) (s : List ℕ) (a : is_accepted (replayed rows start file s room) ≡ true) where
  pub answers_fit : length rows ≤ room
  unfolding replayed
  answers_fit = leb-true (length rows) room (has_room (leb (length rows) room) _ a)

  formed : is_accepted (fetches s) ≡ true
  formed = sym (accepted-seen (all_of rows start file) (fetches s)) ∙ rw (with_room rows start file s answers_fit) at a

  pub records-count : length s ≡ 1 + 20 * length (got (fetches s))
  records-count = (whole s formed).long

  pub answers_count : length (got (replayed rows start file s room)) ≡ length rows
  answers_count =
      ap (λ r. length (got r)) (with_room rows start file s answers_fit) ∙ ap length (got-all rows start file (fetches s) formed) ∙ length-map rows (answer_of start file (got (fetches s)))

module _ (rows : List (List ℕ)) (start file : ℕ) (old : List ℕ) where
  -- what a call over the trace s answers
  abbrev pub reply : List ℕ → Reply (Unit {0})
  reply s = reply_to (replayed rows start file s (length old))

  -- and the table that it leaves of the old one
  abbrev pub table : List ℕ → List ℕ
  table s = filled same old (replayed rows start file s (length old))

  module _ (s : List ℕ) (e : reply s ≡ gives tt) where
    fits : length rows ≤ length old
    fits = answers_fit rows start file (length old) s (answered (replayed rows start file s (length old)) e)

    good-trace : is_accepted (fetches s) ≡ true
    good-trace = formed rows start file (length old) s (answered (replayed rows start file s (length old)) e)

    -- the answers of the rows, and the rest as it was
    table_is : table s ≡ all_of rows start file (got (fetches s)) ++ drop (length rows) old
    table_is = all-written rows start file s old fits good-trace

    answer_at : (i : ℕ) → i < length rows → get_or (table s) i 0 ≡ answer_of start file (got (fetches s)) (get_or rows i [])
    answer_at i h =
        let all = all_of rows start file (got (fetches s)) in
        let inside : i < length all = rw (length-map rows (answer_of start file (got (fetches s)))) h in
        ap (λ l. get_or l i 0) table_is ∙ get_or-append all (drop (length rows) old) 0 i inside ∙ item_of (answer_of start file (got (fetches s))) rows i h

  module _ (s : List ℕ) (e : reply s ≡ gives tt) where
    module _ (i : ℕ) (h : i < length rows) where
      -- the bytes of row i are complete after so many records
      abbrev pub CompleteAfter : ℕ → Type 0
      CompleteAfter k = Complete file (got (fetches s)) (start + offset_in (get_or rows i [])) (size_in (get_or rows i [])) k

      -- its answer is the least such count, or never
      pub row_told : Told file (got (fetches s)) (start + offset_in (get_or rows i [])) (size_in (get_or rows i [])) (get_or (table s) i 0)
      row_told = rw (answer_at s e i h) (told file (got (fetches s)) _ _)

      -- and never says that there is none, of any trace that memory holds
      pub never-complete : length s < 2 ^ 64 → get_or (table s) i 0 ≡ never → (k : ℕ) → CompleteAfter k → ⊥
      never-complete few = never-told file (got (fetches s)) _ _ _ row_told (omega (arith, (whole s (good-trace s e)).long))

      -- further records change no answer but never
      pub answer-stays : (t : List ℕ) → reply (s ++ t) ≡ gives tt → (get_or (table s) i 0 ≡ never → ⊥) → get_or (table (s ++ t)) i 0 ≡ get_or (table s) i 0
      answer-stays t f known =
          let row = get_or rows i [] in
          let longer = begins s t (good-trace s e) (good-trace (s ++ t) f) in
          let told-so = answer_at s e i h in
          answer_at (s ++ t) f i h ∙ further file longer (start + offset_in row) (size_in row) (λ g. known (told-so ∙ g)) ∙ sym told-so

    -- a record of the trace once more at its end: the call is answered, and leaves the same table
    module _ (j : ℕ) (h : 20 * j + 20 < length s) where
      abbrev longer : List ℕ
      longer = doubled s (1 + 20 * j)

      recorded : j < length (got (fetches s))
      recorded = omega (arith, (whole s (good-trace s e)).long)

      again-formed : is_accepted (fetches longer) ≡ true
      again-formed = accepted-again s (good-trace s e) j recorded

      pub answered-again : reply longer ≡ gives tt
      answered-again =
          rw (with_room rows start file longer (fits s e)) (reply-accepted (seen (all_of rows start file) (fetches longer)) (accepted-seen (all_of rows start file) (fetches longer) ∙ again-formed))

      alike : (row : List ℕ) → answer_of start file (got (fetches longer)) row ≡ answer_of start file (got (fetches s)) row
      alike row =
          again file (begins s _ (good-trace s e) again-formed) (start + offset_in row) (size_in row) (among-again s (good-trace s e) j recorded)

      pub table-again : table longer ≡ table s
      table-again =
          table_is longer answered-again ∙ ap (λ l. l ++ drop (length rows) old) (same-items (answer_of start file (got (fetches longer))) (answer_of start file (got (fetches s))) alike rows) ∙
          sym (table_is s e)
