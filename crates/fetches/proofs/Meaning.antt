-- What the answer for a tensor means: after so many records every one of its bytes has been
-- delivered, and after fewer not; or never. Assumes nothing.
use Rattle.std.specs.Prelude.{if◌then◌else◌}
use Prim.Native.Nat.{ℕ, zero, suc, ◌+◌, ◌≤◌, ◌<◌, min}
use mathlib.Core.Path.{◌≡◌, refl, sym, ◌∙◌}
use mathlib.Core.Bool.{Bool, true, false}
use mathlib.Core.List.{List, [], ◌∷◌}
use native.Mathlib.Omega.{arith}
use lib.Dec.{leb, ltb}
use lib.ListN.{length, take, length-take}
use lib.Seq.{get_or-take}
use borrow.Author.Tests.{le-leb, lt-ltb, leb-true, ltb-true}
use Rattle.fetches.specs.Trace.{fetch_end}
use Rattle.fetches.specs.Replay.{never, delivers, delivered, complete, least_from, first_after}
use Rattle.fetches.specs.Sweep.{nth, In}
use Rattle.fetches.specs.declared.Fetch.{Fetch}
use Rattle.reading.proofs.Cases.{split}

-- a record delivers the byte x of the file
pub record Delivers (file : ℕ) (f : Fetch) (x : ℕ) : Type 0 where
  pub within : In f x
  pub inside : x < file

-- one of the first k records delivers it
pub record Delivered (file : ℕ) (l : List Fetch) (k x : ℕ) : Type 0 where
  pub which : ℕ
  pub among : which < k
  pub there : which < length l
  pub does : Delivers file (nth l which) x

-- after k records every one of n bytes from x on has been delivered
abbrev pub Complete : ℕ → List Fetch → ℕ → ℕ → ℕ → Type 0
Complete file l x n k = (y : ℕ) → x ≤ y → y < x + n → Delivered file l k y

-- what an answer tells: they are complete after so many records and not after fewer; or never
pub data Told (file : ℕ) (l : List Fetch) (x n : ℕ) : ℕ → Type 0 where
  after : (k : ℕ) → Complete file l x n k → ((j : ℕ) → j < k → Complete file l x n j → ⊥) → Told file l x n k
  nowhere : ((k : ℕ) → Complete file l x n k → ⊥) → Told file l x n never

both : (b c : Bool) → (if b then c else false) ≡ true → (b ≡ true) × (c ≡ true)
both true c e = (refl, e)
both false c e = let z : ◌≡◌ {A = ℕ} 0 1 = cc in absurd (omega arith)

or_else : (b c : Bool) → c ≡ true → (if b then true else c) ≡ true
or_else true c e = refl
or_else false c e = e

module _ (file : ℕ) where
  delivers_so : (f : Fetch) (x : ℕ) → delivers file f x ≡ true → Delivers file f x
  delivers_so f x e =
      let t = both (leb f.offset x) (ltb x (min (fetch_end f) file)) e in
      let h : x < min (fetch_end f) file = ltb-true _ _ t.1 in
      record { within = record { low = leb-true _ _ t.0; high = omega arith }; inside = omega arith }

  so_delivers : (f : Fetch) (x : ℕ) → Delivers file f x → delivers file f x ≡ true
  so_delivers f x d =
      let h : x < min (fetch_end f) file = omega (arith, d.within.high, d.inside) in
      rw (le-leb _ _ d.within.low) (lt-ltb _ _ h)

  some-by : (f : Fetch) (l : List Fetch) (x : ℕ) (b : Bool) → delivers file f x ≡ b → (if b then true else delivered file l x) ≡ true
      → (delivered file l x ≡ true → Delivered file l (length l) x) → Delivered file (f ∷ l) (length (f ∷ l)) x
  some-by f l x true e g rest = record { which = 0; among = omega arith; there = omega arith; does = delivers_so f x e }
  some-by f l x false e g rest =
      let t = rest g in
      record { which = suc t.which; among = omega (arith, t.among); there = omega (arith, t.there); does = t.does }

  some : (l : List Fetch) (x : ℕ) → delivered file l x ≡ true → Delivered file l (length l) x
  unfolding delivered
  some [] x e = let z : ◌≡◌ {A = ℕ} 0 1 = cc in absurd (omega arith)
  some (f ∷ l) x e = some-by f l x (delivers file f x) refl e (λ g. some l x g)

  one : (l : List Fetch) (i x : ℕ) → i < length l → Delivers file (nth l i) x → delivered file l x ≡ true
  unfolding delivered
  one [] i x h d = absurd (omega arith)
  one (f ∷ l) zero x h d = rw (so_delivers f x d)
  one (f ∷ l) (suc i) x h d = or_else (delivers file f x) (delivered file l x) (one l i x (omega arith) d)

  module _ (l : List Fetch) where
    every : (n x : ℕ) → complete file l x n ≡ true → (y : ℕ) → x ≤ y → y < x + n → delivered file l y ≡ true
    unfolding complete
    every zero x e y g h = absurd (omega arith)
    every (suc n) x e y g h =
        let t = both (delivered file l x) (complete file l (suc x) n) e in
        split x y (λ p. every n (suc x) t.1 y p (omega arith)) (λ p. let same : y ≡ x = omega arith in rw same t.0)

    every_back : (n x : ℕ) → ((y : ℕ) → x ≤ y → y < x + n → delivered file l y ≡ true) → complete file l x n ≡ true
    unfolding complete
    every_back zero x all = refl
    every_back (suc n) x all = rw (all x (omega arith) (omega arith)) (every_back n (suc x) (λ y g h. all y (omega arith) (omega arith)))

  module _ (l : List Fetch) (x n : ℕ) where
    complete_so : (k : ℕ) → complete file (take k l) x n ≡ true → Complete file l x n k
    complete_so k e y g h =
        let t = some (take k l) y (every (take k l) n x e y g h) in
        let m = rw length-take at t.there in
        record { which = t.which; among = omega arith; there = omega arith; does = rw (get_or-take k l t.which _ (omega arith)) at t.does }

    so_complete : (k : ℕ) → Complete file l x n k → complete file (take k l) x n ≡ true
    so_complete k all =
        every_back (take k l) n x
        (λ y g h.
        let t = all y g h in
        one (take k l) t.which y (rw length-take (omega (arith, t.among, t.there))) (rw (get_or-take k l t.which _ t.among) t.does))

    none_of : (k : ℕ) → complete file (take k l) x n ≡ false → Complete file l x n k → ⊥
    none_of k e all = let f : false ≡ true = sym e ∙ so_complete k all in let z : ◌≡◌ {A = ℕ} 0 1 = cc in omega arith

    -- what k records do, all of them do
    all_do : (k : ℕ) → Complete file l x n k → Complete file l x n (length l)
    all_do k all y g h = let t = all y g h in record { which = t.which; among = t.there; there = t.there; does = t.does }

    told-by : (k a : ℕ) (b : Bool) → complete file (take k l) x n ≡ b → ((j : ℕ) → j < k → Complete file l x n j → ⊥)
        → ((Complete file l x n k → ⊥) → Told file l x n a) → Told file l x n (if b then k else a)
    told-by k a true e before rest = after k (complete_so k e) before
    told-by k a false e before rest = rest (none_of k e)

    told_from : (more k : ℕ) → k + more ≡ length l → ((j : ℕ) → j < k → Complete file l x n j → ⊥) → Told file l x n (least_from file l x n k more)
    unfolding least_from
    told_from zero k h before =
        told-by k never (complete file (take k l) x n) refl before
        (λ not. nowhere (λ j all. let last : length l ≡ k = omega arith in not (rw last at (all_do j all))))
    told_from (suc more) k h before =
        told-by k (least_from file l x n (suc k) more) (complete file (take k l) x n) refl before
        (λ not. told_from more (suc k) (omega arith) (λ j g all. split j k (λ p. before j p all) (λ p. let same : j ≡ k = omega arith in not (rw same at all))))

    -- so many records are there
    pub at_most : (k : ℕ) → Complete file l x n k → ((j : ℕ) → j < k → Complete file l x n j → ⊥) → k ≤ length l
    at_most k all fewer = split (length l) k (λ p. absurd (fewer (length l) p (all_do k all))) (λ p. p)

    -- the answer tells this
    pub told : Told file l x n (first_after file l x n)
    told = told_from (length l) 0 (omega arith) (λ j g all. omega arith)

    -- and nothing else does
    pub only : (a b : ℕ) → Told file l x n a → Told file l x n b → a ≡ b
    only a b (after k all fewer) (after j all' fewer') =
        split k j (λ p. absurd (fewer' k p all)) (λ p. split j k (λ q. absurd (fewer j q all')) (λ q. omega arith))
    only a b (after k all fewer) (nowhere not) = absurd (not k all)
    only a b (nowhere not) (after j all fewer) = absurd (not j all)
    only a b (nowhere not) (nowhere not') = refl

    -- of fewer records than 2^64 - 1: where the answer is never, no count of them is enough
    pub never-told : (a : ℕ) → Told file l x n a → length l < never → a ≡ never → (k : ℕ) → Complete file l x n k → ⊥
    never-told a (after k all fewer) few e = absurd (omega (arith, at_most k all fewer))
    never-told a (nowhere not) few e = not
