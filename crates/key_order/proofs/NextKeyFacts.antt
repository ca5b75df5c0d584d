-- What the next key is: it comes after the last one, no key lies between, no later row has it; and
-- where there is none, all keys came. Assumes nothing.
use Rattle.std.specs.Prelude.{if◌then◌else◌, Option, Some, None}
use Prim.Native.Nat.{ℕ, zero, suc, ◌+◌, ◌<◌}
use mathlib.Core.Path.{◌≡◌, refl, subst}
use mathlib.Core.Bool.{Bool, true, false}
use mathlib.Core.List.{List}
use native.Mathlib.Omega.{arith}
use lib.Dec.{ltb}
use lib.ListN.{length, drop}
use borrow.Author.Tests.{ltb-true, ltb-false}
use Rattle.fields.specs.Order.{before}
use Rattle.fields.proofs.Before.{clash, not_itself, not-both, not_through}
use Rattle.key_order.specs.Order.{key_at, to_come, better, improved, best_from, next_key}
use Rattle.key_order.proofs.SearchTurns.{best_turn, best_end}

-- below the next number: the last one, or one before it
under-suc : {A : Type 0} {k i : ℕ} → k < suc i → (k < i → A) → (k ≡ i → A) → A
under-suc {A} {k} {i} h f g = by (ltb k i) refl
  where
    by : (b : Bool) → ltb k i ≡ b → A
    by true e = f (ltb-true k i e)
    by false e = let l = ltb-false k i e in g (omega arith)

module _ (s : List ℕ) (rows : List (List ℕ)) (last : Option ℕ) where
  -- the row j has the best key of the rows before n: it is still to come, none that is still to
  -- come is less, and none of the later ones is equal
  pub record Best (n j : ℕ) : Type 0 where
    pub inside : j < n
    pub comes : to_come s rows last (key_at s rows j) ≡ true
    pub least : (k : ℕ) → k < n → to_come s rows last (key_at s rows k) ≡ true → before (key_at s rows k) (key_at s rows j) ≡ false
    pub latest : (k : ℕ) → k < n → j < k → to_come s rows last (key_at s rows k) ≡ true → before (key_at s rows j) (key_at s rows k) ≡ true

  -- what is known of the best so far
  abbrev pub Found : ℕ → Option ℕ → Type 0
  Found n None = (k : ℕ) → k < n → to_come s rows last (key_at s rows k) ≡ false
  Found n (Some j) = Best n j

  passed_over : (i : ℕ) (z : Option ℕ) → to_come s rows last (key_at s rows i) ≡ false → Found i z → Found (suc i) z
  passed_over i None gone f = λ k h. under-suc h (f k) (λ e. rw e gone)
  passed_over i (Some j) gone f = record {
    inside = let g = f.inside in omega arith;
    comes = f.comes;
    least = λ k h c. under-suc h (λ l. f.least k l c) (λ e. clash c (rw e gone));
    latest = λ k h l c. under-suc h (λ m. f.latest k m l c) (λ e. clash c (rw e gone));
  }

  first_found : (i : ℕ) → to_come s rows last (key_at s rows i) ≡ true → Found i None → Best (suc i) i
  first_found i comes f = record {
    inside = omega arith;
    comes = comes;
    least = λ k h c. under-suc h (λ l. clash c (f k l)) (λ e. rw e (not_itself (key_at s rows i)));
    latest = λ k h l c. absurd (omega arith);
  }

  kept : (i j : ℕ) → before (key_at s rows j) (key_at s rows i) ≡ true → Best i j → Best (suc i) j
  kept i j less f = record {
    inside = let g = f.inside in omega arith;
    comes = f.comes;
    least = λ k h c. under-suc h (λ l. f.least k l c) (λ e. rw e (not-both (key_at s rows j) (key_at s rows i) less));
    latest = λ k h l c. under-suc h (λ m. f.latest k m l c) (λ e. rw e less);
  }

  replaced : (i j : ℕ) → to_come s rows last (key_at s rows i) ≡ true → before (key_at s rows j) (key_at s rows i) ≡ false → Best i j → Best (suc i) i
  replaced i j comes not-less f = record {
    inside = omega arith;
    comes = comes;
    least = λ k h c. under-suc h (λ l. not_through (key_at s rows k) (key_at s rows j) (key_at s rows i) (f.least k l c) not-less) (λ e. rw e (not_itself (key_at s rows i)));
    latest = λ k h l c. absurd (omega arith);
  }

  compared_with : (i : ℕ) (z : Option ℕ) → to_come s rows last (key_at s rows i) ≡ true → Found i z → Found (suc i) (better s rows z i (key_at s rows i))
  compared_with i None comes f = first_found i comes f
  compared_with i (Some j) comes f = by (before (key_at s rows j) (key_at s rows i)) refl
    where
      by : (b : Bool) → before (key_at s rows j) (key_at s rows i) ≡ b → Found (suc i) (if b then Some j else Some i)
      by true e = kept i j e f
      by false e = replaced i j comes e f

  looked-at : (i : ℕ) (z : Option ℕ) → Found i z → Found (suc i) (improved s rows last z i (key_at s rows i))
  looked-at i z f = by (to_come s rows last (key_at s rows i)) refl
    where
      by : (b : Bool) → to_come s rows last (key_at s rows i) ≡ b → Found (suc i) (if b then better s rows z i (key_at s rows i) else z)
      by true e = compared_with i z e f
      by false e = passed_over i z e f

  best_found : (left i : ℕ) (z : Option ℕ) → i + left ≡ length rows → Found i z → Found (length rows) (best_from s rows last z i (drop i rows))
  best_found zero i z e f =
      let end : best_from s rows last z i (drop i rows) ≡ z = best_end s rows last z i (omega arith) in
      let here : i ≡ length rows = omega arith in
      rw end (subst (λ n. Found n z) here f)
  best_found (suc left) i z e f =
      let turn = best_turn s rows last z i (omega arith) in
      let next : i + 1 ≡ suc i = omega arith in
      rw (turn, next) (best_found left (suc i) (improved s rows last z i (key_at s rows i)) (omega arith) (looked-at i z f))

  -- the row that comes next is the best of all; and where there is none, no key is still to come
  pub next-found : Found (length rows) (next_key s rows last)
  next-found = best_found (length rows) 0 None (omega arith) (λ k h. absurd (omega arith))

  module _ {i : ℕ} (e : next_key s rows last ≡ Some i) where
    pub next_best : Best (length rows) i
    next_best = subst (Found (length rows)) e next-found

    -- it is one of the rows, and its key comes after that of the row that was last
    pub next-after : (j : ℕ) → last ≡ Some j → before (key_at s rows j) (key_at s rows i) ≡ true
    next-after j l = subst (λ z. to_come s rows z (key_at s rows i) ≡ true) l next_best.comes

    -- no later row has the same key
    pub next-latest : (k : ℕ) → k < length rows → i < k → key_at s rows k ≡ key_at s rows i → ⊥
    next-latest k h l same =
        let c : to_come s rows last (key_at s rows k) ≡ true = rw same next_best.comes in
        let g : before (key_at s rows i) (key_at s rows k) ≡ true = next_best.latest k h l c in
        clash g (rw same (not_itself (key_at s rows i)))

  -- where there is no next row, no key is still to come
  pub next-none : next_key s rows last ≡ None → (k : ℕ) → k < length rows → to_come s rows last (key_at s rows k) ≡ false
  next-none e = subst (Found (length rows)) e next-found
