-- A turn of the entries of a sheet, and how many there are: those that are left, with those before
-- them, are all. Assumes nothing.
use Rattle.std.specs.Prelude.{Result, Ok, Err}
use Prim.Native.Nat.{ℕ, zero, suc, ◌+◌, ◌-◌, ◌≤◌, ◌<◌}
use mathlib.Core.Path.{◌≡◌, refl, ap, ◌∙◌}
use mathlib.Core.List.{List, [], ◌∷◌}
use mathlib.Core.Bool.{Bool, true, false}
use native.Mathlib.Omega.{arith}
use native.Mathlib.Nat.{sub-zero}
use lib.Dec.{leb, eqb}
use lib.ListN.{get_or-eq_default, length, get_or}
use borrow.Author.Tests.{leb-true, leb-false, le-leb, tests}
use Rattle.reading.specs.Back.{Sure}
use Rattle.reading.specs.Reading.{Reading, Answer, accepted, refused, run, and_then}
use Rattle.reading.proofs.SureLaws.{sure_then, sure_done, sure_check}
use Rattle.values.specs.Contents.{inside_of}
use Rattle.sheet.specs.Format.{SheetEntry, metadata}
use Rattle.sheet.specs.Sheet.{as_many_as, is_metadata, Last, follows, next}
use Rattle.sheet.proofs.PartsFound.{entry-told, entry-ends, tensor-ends}
use Rattle.reading.proofs.RunLaws.{run_bind}
use Rattle.sheet.proofs.BackFromAnswers.{Refusal}
use Rattle.sheet.specs.Steps.{count_of}

-- so many more
abbrev pub added : ℕ → Result (ℕ × ℕ) ℕ → Result (ℕ × ℕ) ℕ
added n (Ok x) = Ok (n + x.0, x.1)
added n (Err p) = Err p

added_none : (x : Result (ℕ × ℕ) ℕ) → x ≡ added 0 x
added_none (Ok x) = ap (λ n. Ok (n, x.1)) (omega arith)
added_none (Err p) = refl

added-one : {A : Type 0} (i : ℕ) (a : A) (r : Answer (List A)) → added i (count_of (and_then r (λ l e. accepted (a ∷ l) e))) ≡ added (i + 1) (count_of r)
unfolding and_then
added-one i a (accepted l e) = ap (λ n. Ok (n, e)) (omega arith)
added-one i a (refused n p) = refl

module _ {S A : Type 0} (more : List ℕ → ℕ → Bool) (m : S → Reading A) (f : S → A → S) (n : ℕ) (s : List ℕ) (p : ℕ) (z : S) where
  pub many_starts : count_of (as_many_as more m f n z s p) ≡ added 0 (count_of (as_many_as more m f (n - 0) z s p))
  many_starts = rw sub-zero (added_none (count_of (as_many_as more m f n z s p)))

  ends : (turns : ℕ) → more s p ≡ false → as_many_as more m f turns z s p ≡ accepted [] p
  unfolding as_many_as
  ends zero h = refl
  ends (suc k) h = rw h

  -- none is left
  pub many_ends : (i : ℕ) → more s p ≡ false → added i (count_of (as_many_as more m f (n - i) z s p)) ≡ Ok (i, p)
  many_ends i h = ap (λ r. added i (count_of r)) (ends (n - i) h) ∙ ap (λ k. Ok (k, p)) (omega arith)

  -- the one that follows is bad
  pub many_stops : (i : ℕ) → i < n → more s p ≡ true → Refusal (run (m z) s p) → added i (count_of (as_many_as more m f (n - i) z s p)) ≡ Err p
  unfolding as_many_as
  many_stops i below h x = let k : n - i ≡ suc (n - (i + 1)) = omega arith in rw (k, h, ← x.is)

  more-cons : (i : ℕ) → i < n → more s p ≡ true → {a : A} {q : ℕ} → accepted a q ≡ run (m z) s p
      → as_many_as more m f (n - i) z s p ≡ and_then (as_many_as more m f (n - (i + 1)) (f z a) s q) (λ l e. accepted (a ∷ l) e)
  unfolding as_many_as
  more-cons i below h e = let k : n - i ≡ suc (n - (i + 1)) = omega arith in rw (k, h, ← e)

  -- it is good, and the others are left
  pub many_more : (i : ℕ) → i < n → more s p ≡ true → {a : A} {q : ℕ} → accepted a q ≡ run (m z) s p
      → added i (count_of (as_many_as more m f (n - i) z s p)) ≡ added (i + 1) (count_of (as_many_as more m f (n - (i + 1)) (f z a) s q))
  many_more i below h {a} {q} e =
      ap (λ r. added i (count_of r)) (more-cons i below h e) ∙ added-one i a (as_many_as more m f (n - (i + 1)) (f z a) s q)

-- a tag is inside the sheet
tag_cases : (s : List ℕ) (p : ℕ) (b : Bool) → leb (length s) (p + 4) ≡ b → eqb (get_or s (p + 4) 0) 1 ≡ true → p < length s
tag_cases s p true e h =
    let past : length s ≤ p + 4 = leb-true _ _ e in
    let none : eqb 0 1 ≡ true = rw (get_or-eq_default s 0 past) at h in
    let z : ◌≡◌ {A = ℕ} 0 1 = cc in
    absurd (omega arith)
tag_cases s p false e h = let i = leb-false (length s) (p + 4) e in omega arith

pub tag_inside : (s : List ℕ) (p : ℕ) → is_metadata s p ≡ true → p < length s
tag_inside s p h = tag_cases s p (leb (length s) (p + 4)) refl h

-- the key of an entry is what stands at its place
pub key-stands : (s : List ℕ) (p : ℕ) {e : SheetEntry} {q : ℕ} → accepted e q ≡ run metadata s p → inside_of s e.parts.key ≡ e.content.key
key-stands s p r = let told = entry-told s p r in rw (le-leb _ _ told.there) told.key

-- an entry after a key: it takes some bytes, and its key is what stands at its place
sure_next : (s : List ℕ) (last : Last) (p : ℕ) → Sure s (next last) p (λ e q. (p < q) × (inside_of s e.parts.key ≡ e.content.key))
unfolding next
sure_next s last p =
    sure_then (record { holds = λ e q r. ((entry-ends s p r).0, key-stands s p r) }) (λ e q h. sure_check (follows last e.content.key) 31 0 _ (λ t. sure_done h))

pub next-told : (s : List ℕ) (last : Last) (p : ℕ) {e : SheetEntry} {q : ℕ} → accepted e q ≡ run (next last) s p → (p < q) × (inside_of s e.parts.key ≡ e.content.key)
next-told s last p {e} {q} r = (sure_next s last p).holds e q r

-- an entry after a key, and a turn of the metadata entries and of the tensors
pub ruleset next_steps = (run_bind, key-stands)

pub ruleset entries_steps = (many_starts, many_ends, many_stops, many_more, tag_inside, next-told)

pub ruleset tensors_steps = (many_starts, many_ends, many_stops, many_more, tensor-ends, tests)
