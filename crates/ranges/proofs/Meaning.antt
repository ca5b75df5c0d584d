-- What the answer means: every row ends inside the file, or the number is that of the first that
-- does not. Assumes nothing.
use Rattle.std.specs.Prelude.{if◌then◌else◌}
use Prim.Native.Nat.{ℕ, zero, suc, ◌+◌, ◌≤◌, ◌<◌}
use mathlib.Core.Path.{◌≡◌, refl, ap, ◌∙◌}
use mathlib.Core.Bool.{Bool, true, false}
use mathlib.Core.List.{List, [], ◌∷◌}
use native.Mathlib.Omega.{arith}
use native.Mathlib.Nat.{zero-add, add-zero}
use lib.Dec.{leb}
use lib.ListN.{length, get_or}
use borrow.Author.Tests.{le-leb, lt-leb, leb-true, leb-false}
use Rattle.reading.specs.Replies.{Reply, gives, refuses}
use Rattle.ranges.specs.Ranges.{end_of, check_from}

-- i is the number of the first row that ends after the file
pub record First (start file : ℕ) (rows : List (List ℕ)) (i : ℕ) : Type 0 where
  pub there : i < length rows
  pub after : file < end_of start (get_or rows i [])
  pub before : (j : ℕ) → j < i → end_of start (get_or rows j []) ≤ file

-- what an answer tells of the test it was made by
record Passed (t : Bool) (x y : Reply (Unit {0})) : Type 0 where
  test : t ≡ true
  same : x ≡ y

passed : (t : Bool) (x : Reply (Unit {0})) (n : ℕ) → (if t then x else refuses 20 n) ≡ gives tt → Passed t x (gives tt)
passed true x n e = record { test = refl; same = e }
passed false x n e = let z : ◌≡◌ {A = ℕ} 0 1 = cc in absurd (omega arith)

module _ (start file : ℕ) where
  inside_from : (n : ℕ) (rows : List (List ℕ)) → check_from start file n rows ≡ gives tt → (i : ℕ) → i < length rows → end_of start (get_or rows i []) ≤ file
  inside_from n [] e i h = absurd (omega arith)
  inside_from n (row ∷ rows) e zero h = leb-true (end_of start row) file (passed (leb (end_of start row) file) (check_from start file (suc n) rows) n e).test
  inside_from n (row ∷ rows) e (suc i) h =
      inside_from (suc n) rows (passed (leb (end_of start row) file) (check_from start file (suc n) rows) n e).same i (omega arith)

  from_inside : (n : ℕ) (rows : List (List ℕ)) → ((i : ℕ) → i < length rows → end_of start (get_or rows i []) ≤ file) → check_from start file n rows ≡ gives tt
  from_inside n [] all = refl
  from_inside n (row ∷ rows) all =
      rw (le-leb (end_of start row) file (all 0 (omega arith))) (from_inside (suc n) rows (λ i h. all (suc i) (omega arith)))

  -- of rows counted from n: the refusal is 20, and its number is that of the first
  record Found (n : ℕ) (rows : List (List ℕ)) (w k : ℕ) : Type 0 where
    twenty : w ≡ 20
    at : ℕ
    number : k ≡ n + at
    first : First start file rows at

  found_here : (n : ℕ) (row : List ℕ) (rows : List (List ℕ)) (w k : ℕ) → w ≡ 20 → n ≡ k → file < end_of start row → Found n (row ∷ rows) w k
  found_here n row rows w k e f h =
      record { twenty = e; at = 0; number = omega arith; first = record { there = omega arith; after = h; before = λ j g. absurd (omega arith) } }

  found_after : (n : ℕ) (row : List ℕ) (rows : List (List ℕ)) (w k : ℕ) → end_of start row ≤ file → Found (suc n) rows w k → Found n (row ∷ rows) w k
  found_after n row rows w k h f =
      record {
        twenty = f.twenty;
        at = suc f.at;
        number = omega arith;
        first = record { there = omega arith; after = f.first.after; before = before_too };
      }
    where
      before_too : (j : ℕ) → j < suc f.at → end_of start (get_or (row ∷ rows) j []) ≤ file
      before_too zero g = h
      before_too (suc j) g = f.first.before j (omega arith)

  found-by : (t : Bool) (n : ℕ) (row : List ℕ) (rows : List (List ℕ)) (w k : ℕ) → leb (end_of start row) file ≡ t
      → (if t then check_from start file (suc n) rows else refuses 20 n) ≡ refuses w k
      → (check_from start file (suc n) rows ≡ refuses w k → Found (suc n) rows w k) → Found n (row ∷ rows) w k
  found-by true n row rows w k e g rest = found_after n row rows w k (leb-true (end_of start row) file e) (rest g)
  found-by false n row rows w k e g rest = found_here n row rows w k (cc) (cc) (leb-false (end_of start row) file e)

  found : (n : ℕ) (rows : List (List ℕ)) (w k : ℕ) → check_from start file n rows ≡ refuses w k → Found n rows w k
  found n [] w k e = let z : ◌≡◌ {A = ℕ} 0 1 = cc in absurd (omega arith)
  found n (row ∷ rows) w k e = found-by (leb (end_of start row) file) n row rows w k refl e (λ g. found (suc n) rows w k g)

  refused-at : (n : ℕ) (rows : List (List ℕ)) (i : ℕ) → First start file rows i → check_from start file n rows ≡ refuses 20 (n + i)
  refused-at n [] i f = absurd (omega (arith, f.there))
  refused-at n (row ∷ rows) zero f = rw (lt-leb (end_of start row) file f.after, add-zero)
  refused-at n (row ∷ rows) (suc i) f =
      let rest : First start file rows i = record { there = omega (arith, f.there); after = f.after; before = λ j h. f.before (suc j) (omega arith) } in
      let same : suc n + i ≡ n + suc i = omega arith in
      rw (le-leb (end_of start row) file (f.before 0 (omega arith))) (refused-at (suc n) rows i rest ∙ ap (refuses 20) same)

  module _ (rows : List (List ℕ)) where
    -- accepted: every row ends inside the file
    pub inside-every : check_from start file 0 rows ≡ gives tt → (i : ℕ) → i < length rows → end_of start (get_or rows i []) ≤ file
    inside-every e = inside_from 0 rows e

    -- and where every row does, they are accepted
    pub every-inside : ((i : ℕ) → i < length rows → end_of start (get_or rows i []) ≤ file) → check_from start file 0 rows ≡ gives tt
    every-inside all = from_inside 0 rows all

    -- refused: the number is 20, and the tensor is the first that ends after the file
    pub refused-first : (w i : ℕ) → check_from start file 0 rows ≡ refuses w i → (w ≡ 20) × First start file rows i
    refused-first w i e =
        let f = found 0 rows w i e in
        let same : i ≡ f.at = omega arith in
        (f.twenty, rw same f.first)

    -- and the first that does is refused
    pub first-refused : (i : ℕ) → First start file rows i → check_from start file 0 rows ≡ refuses 20 i
    first-refused i f = simp zero-add at (refused-at 0 rows i f)
