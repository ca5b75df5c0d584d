-- A turn of a repetition, whatever is read, whatever goes through it, and whatever a row is.
-- Assumes nothing.
use Prim.Native.Nat.{ℕ, zero, suc, ◌+◌, ◌-◌, ◌≤◌, ◌<◌}
use mathlib.Core.Path.{◌≡◌, refl, sym, ap, ◌∙◌}
use mathlib.Core.List.{List, [], ◌∷◌, ◌++◌, map, append_assoc}
use mathlib.Core.Bool.{true, false}
use native.Mathlib.Omega.{arith}
use native.Mathlib.Numerals.{add-one}
use lib.ListN.{length, take, drop, set, take-append-drop}
use lib.Seq.{drop-drop, take-suc-set, drop-set-lt}
use Rattle.reading.specs.Back.{got, bytes_of_all}
use Rattle.reading.specs.Each.{each, times, fold, filled}
use Rattle.reading.specs.Reading.{Reading, done, Answer, accepted, refused, run, ◌>>=◌, and_then, seen, passed, is_accepted}
use Rattle.reading.proofs.RunLaws.{run_bind, goes_on, stops}

then-cons : {A : Type 0} (m : Reading (List A)) (a : A) (s : List ℕ) (at : ℕ) → run (m >>= (λ l. done (a ∷ l))) s at ≡ and_then (run m s at) (λ l p. accepted (a ∷ l) p)
unfolding run
then-cons m a s at = run_bind m (λ l. done (a ∷ l)) s at

seen-cons : {S A : Type 0} (f : S → A → S) (z : S) (a : A) (r : Answer (List A)) → seen (fold f z) (and_then r (λ l p. accepted (a ∷ l) p)) ≡ seen (fold f (f z a)) r
unfolding and_then seen
seen-cons f z a (accepted l p) = refl
seen-cons f z a (refused n p) = refl

passed-cons : {A : Type 0} (a : A) (r : Answer (List A)) → passed (and_then r (λ l p. accepted (a ∷ l) p)) ≡ passed r
unfolding and_then seen
passed-cons a (accepted l p) = refl
passed-cons a (refused n p) = refl

accepted-then : {A : Type 0} (a : A) (r : Answer (List A)) → is_accepted (and_then r (λ l p. accepted (a ∷ l) p)) ≡ true → is_accepted r ≡ true
unfolding and_then
accepted-then a (accepted l p) h = h
accepted-then a (refused n p) h = h

got-cons : {A : Type 0} (a : A) (r : Answer (List A)) → is_accepted (and_then r (λ l p. accepted (a ∷ l) p)) ≡ true → got (and_then r (λ l p. accepted (a ∷ l) p)) ≡ a ∷ got r
unfolding and_then
got-cons a (accepted l p) h = refl
got-cons a (refused n p) h = let z : ◌≡◌ {A = ℕ} 0 1 = cc in absurd (omega arith)

-- a row that is stored, and the rows that are left
pub row_cons : {B : Type 0} (table : List B) (i : ℕ) (b : B) (bs : List B) (k : ℕ) → i < length table
    → take i table ++ ((b ∷ bs) ++ drop (suc k) (drop i table)) ≡ take (i + 1) (set table i b) ++ (bs ++ drop k (drop (i + 1) (set table i b)))
row_cons table i b bs k h =
    let e : i + suc k ≡ suc i + k = omega arith in
    rw (add-one, take-suc-set table i b h, drop-set-lt (suc i) table i b (omega arith), drop-drop, drop-drop, e, append_assoc)

filled-cons : {A B : Type 0} (row : A → B) (table : List B) (i : ℕ) (a : A) (r : Answer (List A)) → i < length table → is_accepted (and_then r (λ l p. accepted (a ∷ l) p)) ≡ true
    → take i table ++ filled row (drop i table) (and_then r (λ l p. accepted (a ∷ l) p)) ≡ take (i + 1) (set table i (row a)) ++ filled row (drop (i + 1) (set table i (row a))) r
unfolding and_then
filled-cons row table i a (accepted l p) b h = row_cons table i (row a) (map row l) (length l) b
filled-cons row table i a (refused n p) b h = let z : ◌≡◌ {A = ℕ} 0 1 = cc in absurd (omega arith)

-- the first of n + 1, which is not there, or after which n are left
module _ {S A : Type 0} (m : S → Reading A) (f : S → A → S) (s : List ℕ) (at n : ℕ) (z : S) where
  pub first_stops : {w p : ℕ} → refused w p ≡ run (m z) s at → run (each m f (suc n) z) s at ≡ refused w p
  unfolding each
  first_stops e = stops (m z) _ s at e

  pub first_more : {a : A} {q : ℕ} → accepted a q ≡ run (m z) s at → run (each m f (suc n) z) s at ≡ and_then (run (each m f n (f z a)) s q) (λ l p. accepted (a ∷ l) p)
  unfolding each
  first_more {a} {q} e = goes_on (m z) _ s at e ∙ then-cons (each m f n (f z a)) a s q

-- a turn, as a loop has it that counts i up to n, with the state z
module _ {S A : Type 0} (m : S → Reading A) (f : S → A → S) (s : List ℕ) (at n i : ℕ) (z : S) where
  pub each-ends : n ≤ i → run (each m f (n - i) z) s at ≡ accepted [] at
  unfolding run each
  each-ends h = let k : n - i ≡ 0 = omega arith in rw k

  pub each-stops : i < n → {w p : ℕ} → refused w p ≡ run (m z) s at → run (each m f (n - i) z) s at ≡ refused w p
  each-stops h e = let k : n - i ≡ suc (n - (i + 1)) = omega arith in rw k (first_stops m f s at (n - (i + 1)) z e)

  pub each_more : i < n → {a : A} {q : ℕ} → accepted a q ≡ run (m z) s at → run (each m f (n - i) z) s at ≡ and_then (run (each m f (n - (i + 1)) (f z a)) s q) (λ l p. accepted (a ∷ l) p)
  each_more h e = let k : n - i ≡ suc (n - (i + 1)) = omega arith in rw k (first_more m f s at (n - (i + 1)) z e)

  -- what is folded, which may be the state or anything else
  pub each_seen : i < n → {a : A} {q : ℕ} → accepted a q ≡ run (m z) s at → {T : Type 0} (g : T → A → T) (y : T) → seen (fold g y) (run (each m f (n - i) z) s at) ≡ seen (fold g (g y a)) (run (each m f (n - (i + 1)) (f z a)) s q)
  each_seen h {a} {q} e g y = ap (seen (fold g y)) (each_more h e) ∙ seen-cons g y a (run (each m f (n - (i + 1)) (f z a)) s q)

  -- where only the place is kept
  pub each-passed : i < n → {a : A} {q : ℕ} → accepted a q ≡ run (m z) s at → passed (run (each m f (n - i) z) s at) ≡ passed (run (each m f (n - (i + 1)) (f z a)) s q)
  each-passed h {a} {q} e = ap passed (each_more h e) ∙ passed-cons a (run (each m f (n - (i + 1)) (f z a)) s q)

  -- where all are there no turn is refused, and after the last the table is whole
  pub each-never : i < n → {w p : ℕ} → refused w p ≡ run (m z) s at → is_accepted (run (each m f (n - i) z) s at) ≡ true → ⊥
  each-never below e all =
      let g : false ≡ true = sym (ap is_accepted (each-stops below e)) ∙ all in
      let o : ◌≡◌ {A = ℕ} 0 1 = cc in
      omega arith

  pub each_last : {B : Type 0} (row : A → B) (table : List B) → n ≤ i → take i table ++ filled row (drop i table) (run (each m f (n - i) z) s at) ≡ table
  each_last row table h = ap (λ r. take i table ++ filled row (drop i table) r) (each-ends h) ∙ take-append-drop i table

  pub each-accepted : i < n → {a : A} {q : ℕ} → accepted a q ≡ run (m z) s at → is_accepted (run (each m f (n - i) z) s at) ≡ true → is_accepted (run (each m f (n - (i + 1)) (f z a)) s q) ≡ true
  each-accepted below {a} e all = accepted-then a _ (rw (each_more below e) at all)

  pub each-filled : i < n → {a : A} {q : ℕ} → accepted a q ≡ run (m z) s at → is_accepted (run (each m f (n - i) z) s at) ≡ true → {B : Type 0} (row : A → B) (table : List B) → i < length table
      → take i table ++ filled row (drop i table) (run (each m f (n - i) z) s at) ≡ take (i + 1) (set table i (row a)) ++ filled row (drop (i + 1) (set table i (row a))) (run (each m f (n - (i + 1)) (f z a)) s q)
  each-filled below {a} e all row table b =
      ap (λ r. take i table ++ filled row (drop i table) r) (each_more below e) ∙ filled-cons row table i a _ b (rw (each_more below e) at all)

-- the same where there is no state
module _ {A : Type 0} (m : Reading A) (s : List ℕ) (at n i : ℕ) where
  pub times-ends : n ≤ i → run (times (n - i) m) s at ≡ accepted [] at
  times-ends = each-ends {S = Unit {0}} (λ z. m) (λ z a. z) s at n i tt

  pub times-stops : i < n → {w p : ℕ} → refused w p ≡ run m s at → run (times (n - i) m) s at ≡ refused w p
  times-stops = each-stops {S = Unit {0}} (λ z. m) (λ z a. z) s at n i tt

  pub times-seen : i < n → {a : A} {q : ℕ} → accepted a q ≡ run m s at → {T : Type 0} (g : T → A → T) (y : T) → seen (fold g y) (run (times (n - i) m) s at) ≡ seen (fold g (g y a)) (run (times (n - (i + 1)) m) s q)
  times-seen = each_seen {S = Unit {0}} (λ z. m) (λ z a. z) s at n i tt

  pub times-passed : i < n → {a : A} {q : ℕ} → accepted a q ≡ run m s at → passed (run (times (n - i) m) s at) ≡ passed (run (times (n - (i + 1)) m) s q)
  times-passed = each-passed {S = Unit {0}} (λ z. m) (λ z a. z) s at n i tt

  pub times-never : i < n → {w p : ℕ} → refused w p ≡ run m s at → is_accepted (run (times (n - i) m) s at) ≡ true → ⊥
  times-never = each-never {S = Unit {0}} (λ z. m) (λ z a. z) s at n i tt

  pub times-last : {B : Type 0} (row : A → B) (table : List B) → n ≤ i → take i table ++ filled row (drop i table) (run (times (n - i) m) s at) ≡ table
  times-last = each_last {S = Unit {0}} (λ z. m) (λ z a. z) s at n i tt

  pub times-accepted : i < n → {a : A} {q : ℕ} → accepted a q ≡ run m s at → is_accepted (run (times (n - i) m) s at) ≡ true → is_accepted (run (times (n - (i + 1)) m) s q) ≡ true
  times-accepted = each-accepted {S = Unit {0}} (λ z. m) (λ z a. z) s at n i tt

  -- the first of those that are left, and the others
  pub times-got : i < n → {a : A} {q : ℕ} → accepted a q ≡ run m s at → is_accepted (run (times (n - i) m) s at) ≡ true → got (run (times (n - i) m) s at) ≡ a ∷ got (run (times (n - (i + 1)) m) s q)
  times-got below {a} {q} e all =
      let t = each_more {S = Unit {0}} (λ z. m) (λ z a. z) s at n i tt below e in
      ap got t ∙ got-cons a (run (times (n - (i + 1)) m) s q) (rw t at all)

  pub times-filled : i < n → {a : A} {q : ℕ} → accepted a q ≡ run m s at → is_accepted (run (times (n - i) m) s at) ≡ true → {B : Type 0} (row : A → B) (table : List B) → i < length table
      → take i table ++ filled row (drop i table) (run (times (n - i) m) s at) ≡ take (i + 1) (set table i (row a)) ++ filled row (drop (i + 1) (set table i (row a))) (run (times (n - (i + 1)) m) s q)
  times-filled = each-filled {S = Unit {0}} (λ z. m) (λ z a. z) s at n i tt

-- the first of n + 1, where only the place is kept
module _ {A : Type 0} (m : Reading A) (s : List ℕ) (at n : ℕ) where
  pub times-first : {a : A} {q : ℕ} → accepted a q ≡ run m s at → passed (run (times (suc n) m) s at) ≡ passed (run (times n m) s q)
  times-first {a} {q} e = ap passed (first_more {S = Unit {0}} (λ z. m) (λ z a. z) s at n tt e) ∙ passed-cons a (run (times n m) s q)

  pub times_none : {w p : ℕ} → refused w p ≡ run m s at → passed (run (times (suc n) m) s at) ≡ refused w p
  unfolding seen
  times_none e = ap passed (first_stops {S = Unit {0}} (λ z. m) (λ z a. z) s at n tt e)

-- back from what is seen of an answer
seen_parts : {A B : Type 0} (g : A → B) (r : Answer A) {b : B} {q : ℕ} → accepted b q ≡ seen g r → (a : A) × (accepted a q ≡ r) × (b ≡ g a)
unfolding seen
seen_parts g (accepted a p) {b} {q} e = let k : q ≡ p = cc in (a, ap (accepted a) k, cc)
seen_parts g (refused n p) e = let z : ◌≡◌ {A = ℕ} 0 1 = cc in absurd (omega arith)

pub seen_none : {A B : Type 0} (g : A → B) (r : Answer A) {n p : ℕ} → refused n p ≡ seen g r → refused n p ≡ r
unfolding seen
seen_none g (accepted a q) e = let z : ◌≡◌ {A = ℕ} 0 1 = cc in absurd (omega arith)
seen_none g (refused n p) e = cc

module _ {A B : Type 0} (g : A → B) (m : Reading A) (s : List ℕ) (at : ℕ) where
  pub seen-accepted : {b : B} {q : ℕ} → accepted b q ≡ seen g (run m s at) → (a : A) × (accepted a q ≡ run m s at) × (b ≡ g a)
  seen-accepted e = seen_parts g (run m s at) e

  pub seen-refused : {n p : ℕ} → refused n p ≡ seen g (run m s at) → refused n p ≡ run m s at
  seen-refused e = seen_none g (run m s at) e

-- one more, as a view shows each
map-cons : {A C : Type 0} (f : A → C) (a : A) (r : Answer (List A)) → seen (map f) (and_then r (λ l p. accepted (a ∷ l) p)) ≡ seen (λ l. f a ∷ l) (seen (map f) r)
unfolding and_then seen
map-cons f a (accepted l p) = refl
map-cons f a (refused n p) = refl

-- so many, as a view shows each: what comes first and the others, or a refusal
module _ {A C : Type 0} (f : A → C) (m : Reading A) (s : List ℕ) (n at : ℕ) where
  shown-more : {c : C} {q : ℕ} → accepted c q ≡ seen f (run m s at) → seen (map f) (run (times (suc n) m) s at) ≡ seen (λ l. c ∷ l) (seen (map f) (run (times n m) s q))
  shown-more {c} {q} e =
      let r = seen_parts f (run m s at) e in
      rw r.2 (ap (seen (map f)) (first_more {S = Unit {0}} (λ z. m) (λ z a. z) s at n tt r.1) ∙ map-cons f r.0 (run (times n m) s q))

  shown-not : {w p : ℕ} → refused w p ≡ seen f (run m s at) → seen (map f) (run (times (suc n) m) s at) ≡ refused w p
  unfolding seen
  shown-not e = ap (seen (map f)) (first_stops {S = Unit {0}} (λ z. m) (λ z a. z) s at n tt (seen_none f (run m s at) e))

-- two programs of which views show the same, and what these show of them so many times
module _ {A B C : Type 0} (f : A → C) (g : B → C) (m : Reading A) (k : Reading B) (s : List ℕ) (alike : (p : ℕ) → seen f (run m s p) ≡ seen g (run k s p)) where
  alike-turn : (n at : ℕ) → ((q : ℕ) → seen (map f) (run (times n m) s q) ≡ seen (map g) (run (times n k) s q)) → (r : Answer C) → r ≡ seen f (run m s at)
      → seen (map f) (run (times (suc n) m) s at) ≡ seen (map g) (run (times (suc n) k) s at)
  alike-turn n at rest (accepted c q) e = shown-more f m s n at e ∙ ap (seen (λ l. c ∷ l)) (rest q) ∙ sym (shown-more g k s n at (e ∙ alike at))
  alike-turn n at rest (refused w p) e = shown-not f m s n at e ∙ sym (shown-not g k s n at (e ∙ alike at))

  times-same : (n at : ℕ) → seen (map f) (run (times n m) s at) ≡ seen (map g) (run (times n k) s at)
  unfolding each run seen
  times-same zero at = refl
  times-same (suc n) at = alike-turn n at (times-same n) (seen f (run m s at)) refl

-- of each only the place is kept
passed-map : {A C : Type 0} (f : A → C) (r : Answer (List A)) → passed (seen (map f) r) ≡ passed r
unfolding seen
passed-map f (accepted l q) = refl
passed-map f (refused n p) = refl

pub times-alike : {A B : Type 0} (m : Reading A) (k : Reading B) (s : List ℕ) → ((p : ℕ) → passed (run m s p) ≡ passed (run k s p)) → (n at : ℕ) → passed (run (times n m) s at) ≡ passed (run (times n k) s at)
times-alike m k s alike n at =
    sym (passed-map (λ a. tt {0}) (run (times n m) s at)) ∙ ap passed (times-same (λ a. tt {0}) (λ b. tt {0}) m k s alike n at) ∙ passed-map (λ b. tt {0}) (run (times n k) s at)

-- or its bytes: rows of what a view shows
pub rows-map : {A C : Type 0} (enc : C → List ℕ) (view : A → C) (l : List A) → bytes_of_all enc (map view l) ≡ bytes_of_all (λ a. enc (view a)) l
unfolding bytes_of_all
rows-map enc view [] = refl
rows-map enc view (a ∷ l) = ap (λ r. enc (view a) ++ r) (rows-map enc view l)

bytes-map : {A : Type 0} (enc : A → List ℕ) (r : Answer (List A)) → seen (bytes_of_all (λ b. b)) (seen (map enc) r) ≡ seen (bytes_of_all enc) r
unfolding seen
bytes-map enc (accepted l q) = ap (λ b. accepted b q) (rows-map (λ b. b) enc l)
bytes-map enc (refused n p) = refl

pub times-bytes : {A B : Type 0} (f : A → List ℕ) (g : B → List ℕ) (m : Reading A) (k : Reading B) (s : List ℕ) → ((p : ℕ) → seen f (run m s p) ≡ seen g (run k s p)) → (n at : ℕ) → seen (bytes_of_all f) (run (times n m) s at) ≡ seen (bytes_of_all g) (run (times n k) s at)
times-bytes f g m k s alike n at =
    sym (bytes-map f (run (times n m) s at)) ∙ ap (seen (bytes_of_all (λ b. b))) (times-same f g m k s alike n at) ∙ bytes-map g (run (times n k) s at)
