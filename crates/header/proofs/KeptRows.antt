-- Rows that were kept while a list was tested: they stand at the front of their table, and a copy
-- of them fills another. And a table is filled by filling as many rows at its front as there are
-- records. Assumes nothing.
use Prim.Native.Nat.{ℕ}
use mathlib.Core.Path.{◌≡◌, refl, sym, ap, ◌∙◌}
use mathlib.Core.List.{List, [], ◌++◌, append-nil, map}
use mathlib.Core.Bool.{true}
use native.Mathlib.Omega.{arith}
use lib.ListN.{length, length-map, length-take, take, drop, take-append-drop, drop_of_length-le}
use lib.Seq.{take_at, drop_at}
use Rattle.reading.specs.Each.{each, times, filled}
use Rattle.reading.specs.Reading.{Reading, Answer, accepted, refused, run, is_accepted}
use Rattle.reading.proofs.SureLaws.{sure_each, whatever}

module _ {A B : Type 0} (row : A → B) where
  -- what was filled has the rows in front
  pub stands : (old new : List B) (r : Answer (List A)) → (is_accepted r ≡ true → new ≡ filled row old r) → new ≡ filled row new r
  stands old new (accepted l q) e =
      let d : drop (length l) new ≡ drop (length l) old = ap (drop (length l)) (e refl) ∙ drop_at (map row l) (drop (length l) old) (length l) (length-map l row) in
      e refl ∙ ap (λ x. map row l ++ x) (sym d)
  stands old new (refused n p) e = refl

  -- the first n rows of such a table fill another
  copied_cases : (n : ℕ) (kept old : List B) (r : Answer (List A)) → ((l : List A) (q : ℕ) → accepted l q ≡ r → length l ≡ n) → is_accepted r ≡ true → kept ≡ filled row kept r
      → take n kept ++ drop n old ≡ filled row old r
  copied_cases n kept old (accepted l q) count all e =
      let c : length l ≡ n = count l q refl in
      let t : take n kept ≡ map row l = ap (take n) e ∙ take_at (map row l) (drop (length l) kept) n (length-map l row ∙ c) in
      rw (t, c)
  copied_cases n kept old (refused w p) count all e = let z : ◌≡◌ {A = ℕ} 0 1 = cc in absurd (omega arith)

  pub copied : (m : Reading A) (n : ℕ) (s : List ℕ) (at : ℕ) (kept old : List B) → is_accepted (run (times n m) s at) ≡ true → kept ≡ filled row kept (run (times n m) s at)
      → take n kept ++ drop n old ≡ filled row old (run (times n m) s at)
  copied m n s at kept old all e =
      copied_cases n kept old (run (times n m) s at) (λ l q h. ((sure_each {P = λ z a. Unit {0}} _ _ (λ z p. whatever) n tt at).holds l q h).0) all e

  -- as many rows as there are records, at the front of a table
  front_cases : (n : ℕ) (old : List B) (r : Answer (List A)) → ((l : List A) (q : ℕ) → accepted l q ≡ r → length l ≡ n) → filled row (take n old) r ++ drop n old ≡ filled row old r
  front_cases n old (accepted l q) count =
      let c : length l ≡ n = count l q refl in
      let none : drop n (take n old) ≡ [] = drop_of_length-le (take n old) (omega (arith, length-take n old)) in
      rw (c, none, append-nil) refl
  front_cases n old (refused w p) count = take-append-drop n old

  pub front : {S : Type 0} (m : S → Reading A) (f : S → A → S) (n : ℕ) (z : S) (s : List ℕ) (at : ℕ) (old : List B)
      → filled row (take n old) (run (each m f n z) s at) ++ drop n old ≡ filled row old (run (each m f n z) s at)
  front m f n z s at old =
      front_cases n old (run (each m f n z) s at) (λ l q h. ((sure_each {P = λ y a. Unit {0}} m f (λ y p. whatever) n z at).holds l q h).0)
