-- A search by a program: its turns, as a loop has them; and what it comes to, against reading all.
-- Assumes nothing.
use Rattle.std.specs.Prelude.{if◌then◌else◌}
use Prim.Native.Nat.{ℕ, zero, suc, ◌+◌, ◌-◌, ◌≤◌, ◌<◌}
use mathlib.Core.Path.{◌≡◌, refl, sym, ap, subst, ◌∙◌}
use mathlib.Core.Bool.{Bool, true, false}
use mathlib.Core.List.{List, [], ◌∷◌, ◌++◌, map}
use native.Mathlib.Omega.{arith}
use lib.ListN.{length}
use Rattle.reading.specs.Back.{All}
use Rattle.reading.specs.Each.{each, fold}
use Rattle.reading.specs.Reading.{Reading, Answer, accepted, refused, run, and_then, seen}
use Rattle.reading.proofs.Repetition.{first_more, first_stops}
use Rattle.reading.proofs.RunLaws.{goes_on, stops}
use Rattle.lookup.specs.Search.{Search, found, none, Looked, first_of, seek}

-- the first of n + 1: refused, asked for, or another
module _ {S A : Type 0} (m : S → Reading (Looked A)) (f : S → A → S) (s : List ℕ) (at n : ℕ) (z : S) (i : ℕ) where
  first-refused : {w p : ℕ} → refused w p ≡ run (m z) s at → run (seek m f (suc n) z i) s at ≡ refused w p
  unfolding seek
  first-refused e = stops (m z) _ s at e

  module _ {x : Looked A} {q : ℕ} (e : accepted x q ≡ run (m z) s at) where
    first-asked : x.asked ≡ true → run (seek m f (suc n) z i) s at ≡ accepted (found x.what (i + 1)) q
    unfolding seek run
    first-asked h = goes_on (m z) _ s at e ∙ rw h refl

    first-other : x.asked ≡ false → run (seek m f (suc n) z i) s at ≡ run (seek m f n (f z x.what) (i + 1)) s q
    unfolding seek
    first-other h = goes_on (m z) _ s at e ∙ rw h refl

-- a turn, as a loop has it that counts i up to n, with the state z
module _ {S A : Type 0} (m : S → Reading (Looked A)) (f : S → A → S) (s : List ℕ) (at n i : ℕ) (z : S) where
  pub seek-ends : n ≤ i → run (seek m f (n - i) z i) s at ≡ accepted (none i) at
  unfolding run seek
  seek-ends h = let k : n - i ≡ 0 = omega arith in rw k

  module _ (below : i < n) where
    one_more : n - i ≡ suc (n - (i + 1))
    one_more = omega arith

    pub seek-stops : {w p : ℕ} → refused w p ≡ run (m z) s at → run (seek m f (n - i) z i) s at ≡ refused w p
    seek-stops e = rw one_more (first-refused m f s at (n - (i + 1)) z i e)

    pub seek-asked : {x : Looked A} {q : ℕ} → accepted x q ≡ run (m z) s at → x.asked ≡ true → run (seek m f (n - i) z i) s at ≡ accepted (found x.what (i + 1)) q
    seek-asked e h = rw one_more (first-asked m f s at (n - (i + 1)) z i e h)

    pub seek-other : {x : Looked A} {q : ℕ} → accepted x q ≡ run (m z) s at → x.asked ≡ false
        → run (seek m f (n - i) z i) s at ≡ run (seek m f (n - (i + 1)) (f z x.what) (i + 1)) s q
    seek-other e h = rw one_more (first-other m f s at (n - (i + 1)) z i e h)

-- what is read where another program's answer is what a view shows of this one's
module _ {A C : Type 0} (view : A → C) {x : Answer C} {r : Answer A} (shows : x ≡ seen view r) where
  pub shows_read : {a : A} {q : ℕ} → accepted a q ≡ r → accepted (view a) q ≡ x
  unfolding seen
  shows_read e = sym (shows ∙ ap (seen view) (sym e))

  pub shows_refused : {n p : ℕ} → refused n p ≡ r → refused n p ≡ x
  unfolding seen
  shows_refused e = sym (shows ∙ ap (seen view) (sym e))

-- what is read after a list, with what is before it
cons-then : {A : Type 0} (a : A) (l : List A) (r : Answer (List A)) → and_then (and_then r (λ more o. accepted (l ++ more) o)) (λ more o. accepted (a ∷ more) o) ≡ and_then r (λ more o. accepted ((a ∷ l) ++ more) o)
unfolding and_then
cons-then a l (accepted more o) = refl
cons-then a l (refused n p) = refl

-- A search, where the test tells what is asked for of what m reads, against m read each time.
module _ {S A : Type 0} (m : S → Reading A) (looking : S → Reading (Looked A)) (f : S → A → S) (s : List ℕ) (test : A → Bool) where
  -- what is asked for
  abbrev pub looked : A → Looked A
  looked a = record { what = a; asked = test a }

  -- a was found, after those before it, of which none is asked for: reading each comes to the same
  -- from there on
  pub record FoundAmong (n : ℕ) (z : S) (i p : ℕ) (a : A) (j q : ℕ) : Type 0 where
    pub before : List A
    pub read : accepted (before ++ (a ∷ [])) q ≡ run (each m f (suc (length before)) z) s p
    pub number : j ≡ i + suc (length before)
    pub others : All (λ (b : A). test b ≡ false) before
    pub asked : test a ≡ true
    pub left : ℕ
    pub counted : n ≡ suc (length before) + left
    pub after : run (each m f n z) s p ≡ and_then (run (each m f left (fold f z (before ++ (a ∷ [])))) s q) (λ more o. accepted ((before ++ (a ∷ [])) ++ more) o)

  -- none is asked for, and each was read
  pub record NoneAmong (n : ℕ) (z : S) (i p j q : ℕ) : Type 0 where
    pub all : List A
    pub read : accepted all q ≡ run (each m f n z) s p
    pub number : j ≡ i + length all
    pub counted : length all ≡ n
    pub others : All (λ (b : A). test b ≡ false) all

  -- what a search says of reading each
  abbrev pub Says : ℕ → S → ℕ → ℕ → Answer (Search A) → Type 0
  Says n z i p (accepted (found a j) q) = FoundAmong n z i p a j q
  Says n z i p (accepted (none j) q) = NoneAmong n z i p j q
  Says n z i p (refused w o) = refused w o ≡ run (each m f n z) s p

  -- past one that is not asked for
  module _ (n : ℕ) (z : S) (i p : ℕ) {a : A} {q : ℕ} (e : accepted a q ≡ run (m z) s p) (other : test a ≡ false) where
    past : (r : Answer (Search A)) → Says n (f z a) (i + 1) q r → Says (suc n) z i p r
    unfolding and_then
    past (accepted (found b j) o) h = record {
      before = a ∷ h.before;
      read = sym (first_more m f s p (suc (length h.before)) z e ∙ ap (λ r. and_then r (λ more u. accepted (a ∷ more) u)) (sym h.read));
      number = omega (arith, h.number);
      others = (other, h.others);
      asked = h.asked;
      left = h.left;
      counted = omega (arith, h.counted);
      after =
          first_more m f s p n z e ∙ ap (λ r. and_then r (λ more u. accepted (a ∷ more) u)) h.after
          ∙ cons-then a (h.before ++ (b ∷ [])) (run (each m f h.left (fold f (f z a) (h.before ++ (b ∷ [])))) s o);
    }
    past (accepted (none j) o) h = record {
      all = a ∷ h.all;
      read = sym (first_more m f s p n z e ∙ ap (λ r. and_then r (λ more u. accepted (a ∷ more) u)) (sym h.read));
      number = omega (arith, h.number);
      counted = ap suc h.counted;
      others = (other, h.others);
    }
    past (refused w o) h = sym (first_more m f s p n z e ∙ ap (λ r. and_then r (λ more u. accepted (a ∷ more) u)) (sym h))

  -- at the one that is asked for
  at_it : (n : ℕ) (z : S) (i p : ℕ) {a : A} {q : ℕ} → accepted a q ≡ run (m z) s p → test a ≡ true → FoundAmong (suc n) z i p a (i + 1) q
  unfolding each run and_then
  at_it n z i p e h = record {
    before = [];
    read = sym (first_more m f s p 0 z e);
    number = omega arith;
    others = tt;
    asked = h;
    left = n;
    counted = omega arith;
    after = first_more m f s p n z e;
  }

  module _ (alike : (z : S) (p : ℕ) → run (looking z) s p ≡ seen looked (run (m z) s p)) where
    turn_by : (n : ℕ) (z : S) (i p : ℕ) → ((y : S) (j o : ℕ) → Says n y j o (run (seek looking f n y j) s o)) → {a : A} {q : ℕ} → accepted a q ≡ run (m z) s p
        → (b : Bool) → test a ≡ b → Says (suc n) z i p (run (seek looking f (suc n) z i) s p)
    turn_by n z i p rest e true h = subst (Says (suc n) z i p) (sym (first-asked looking f s p n z i (shows_read looked (alike z p) e) h)) (at_it n z i p e h)
    turn_by n z i p rest {a} {q} e false h =
        subst (Says (suc n) z i p) (sym (first-other looking f s p n z i (shows_read looked (alike z p) e) h)) (past n z i p e h (run (seek looking f n (f z a) (i + 1)) s q) (rest (f z a) (i + 1) q))

    turn : (n : ℕ) (z : S) (i p : ℕ) → ((y : S) (j o : ℕ) → Says n y j o (run (seek looking f n y j) s o)) → (r : Answer A) → r ≡ run (m z) s p → Says (suc n) z i p (run (seek looking f (suc n) z i) s p)
    turn n z i p rest (accepted a q) e = turn_by n z i p rest e (test a) refl
    turn n z i p rest (refused w o) e =
        subst (Says (suc n) z i p) (sym (first-refused looking f s p n z i (shows_refused looked (alike z p) e))) (sym (first_stops m f s p n z e))

    -- a search, whatever it comes to
    pub says : (n : ℕ) (z : S) (i p : ℕ) → Says n z i p (run (seek looking f n z i) s p)
    unfolding seek each run
    says zero z i p = record { all = []; read = refl; number = omega arith; counted = refl; others = tt }
    says (suc n) z i p = turn n z i p (says n) (run (m z) s p) refl

-- A search through a list.
module _ {A : Type 0} (test : A → Bool) where
  -- past those of which the test does not hold
  pub first-after : (before : List A) (a : A) (more : List A) (i : ℕ) → All (λ (b : A). test b ≡ false) before → test a ≡ true
      → first_of test i ((before ++ (a ∷ [])) ++ more) ≡ found a (i + suc (length before))
  first-after [] a more i others h = rw h (ap (found a) (omega arith))
  first-after (b ∷ before) a more i others h = rw others.0 (first-after before a more (i + 1) others.1 h ∙ ap (found a) (omega arith))

  pub first-none : (l : List A) (i : ℕ) → All (λ (b : A). test b ≡ false) l → first_of test i l ≡ none (i + length l)
  first-none [] i others = ap none (omega arith)
  first-none (b ∷ l) i others = rw others.0 (first-none l (i + 1) others.1 ∙ ap none (omega arith))

-- what is found, as a view shows it
abbrev pub shown : {A B : Type 0} → (A → B) → Search A → Search B
shown view (found a n) = found (view a) n
shown view (none n) = none n

-- through a list as a view shows it
module _ {A B : Type 0} (view : A → B) (test : B → Bool) where
  first-shown : (b : Bool) (a : A) (n : ℕ) (r : Search B) (l : Search A) → r ≡ shown view l → (if b then found (view a) n else r) ≡ shown view (if b then found a n else l)
  first-shown true a n r l e = refl
  first-shown false a n r l e = e

  pub first-map : (l : List A) (i : ℕ) → first_of test i (map view l) ≡ shown view (first_of (λ a. test (view a)) i l)
  first-map [] i = refl
  first-map (a ∷ l) i = first-shown (test (view a)) a (i + 1) _ _ (first-map l (i + 1))
