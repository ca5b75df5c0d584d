-- With what number a program refuses, and where: one law for each constructor of a program,
-- whatever a reader's ceilings. Assumes nothing.
use Rattle.std.specs.Prelude.{if◌then◌else◌}
use Prim.Native.Nat.{ℕ, zero, suc, ◌+◌, ◌≤◌}
use mathlib.Core.Path.{◌≡◌, refl, ap, ◌∙◌}
use mathlib.Core.List.{List, [], ◌∷◌}
use mathlib.Core.Bool.{Bool, true, false}
use native.Mathlib.Omega.{arith}
use lib.ListN.{length}
use lib.Dec.{leb, eqb}
use borrow.Author.Tests.{eqb-true}
use Rattle.reading.specs.Ceilings.{ceiling, too_new, under}
use Rattle.reading.specs.Each.{each}
use Rattle.reading.specs.Reading.{Which, Reading, done, refuse, field, Answer, accepted, refused, run, ◌>>=◌, here, check, mark, and_then}
use Rattle.reading.specs.Refusals.{is_one_of, OneOf, Refuses}
use Rattle.reading.specs.declared.Limits.{Limits}
use Rattle.reading.proofs.CeilingLaws.{run-under}
use Rattle.reading.proofs.RunLaws.{inside}

-- a refusal of one program after another is the first one's, or the second one's after what the
-- first read
refused-then : {A B Z : Type 0} (r : Answer A) (g : A → ℕ → Answer B) {n q : ℕ} → (refused n q ≡ r → Z) → ((a : A) (o : ℕ) → accepted a o ≡ r → refused n q ≡ g a o → Z)
    → refused n q ≡ and_then r g → Z
unfolding and_then
refused-then (accepted a o) g first second h = second a o refl h
refused-then (refused w o) g {n} {q} first second h =
    let i : n ≡ w = cc in
    let j : q ≡ o = cc in
    first (rw (i, j) refl)

-- a field that is not there, and one above its ceiling
field-refused : (P : ℕ → ℕ → Type 0) {A : Type 0} (b : Bool) (a : A) (p o n q : ℕ) → P 1 p → refused n q ≡ (if b then accepted a o else refused 1 p) → P n q
field-refused P true a p o n q h e = let z : ◌≡◌ {A = ℕ} 0 1 = cc in absurd (omega arith)
field-refused P false a p o n q h e =
    let i : n ≡ 1 = cc in
    let j : q ≡ p = cc in
    rw (i, j) h

mark-refused : (P : ℕ → ℕ → Type 0) (b : Bool) (w o : ℕ) (s : List ℕ) (p n q : ℕ) → P w o → refused n q ≡ run (if b then done (tt {0}) else refuse w o) s p → P n q
unfolding run
mark-refused P true w o s p n q h e = let z : ◌≡◌ {A = ℕ} 0 1 = cc in absurd (omega arith)
mark-refused P false w o s p n q h e =
    let i : n ≡ w = cc in
    let j : q ≡ o = cc in
    rw (i, j) h

module _ {l : Limits} {s : List ℕ} {P : ℕ → ℕ → Type 0} where
  -- one program after another, where what the first read may matter; it ends within the bytes
  pub refuses_after : {A B : Type 0} {m : Reading A} {f : A → Reading B} → Refuses l s P m
      → ((a : A) (p q : ℕ) → accepted a q ≡ run (under l m) s p → q ≤ length s → Refuses l s P (f a)) → Refuses l s P (m >>= f)
  refuses_after {m = m} {f} first second = record {
    refusal = λ p low n q e.
        refused-then (run (under l m) s p) _ (first.refusal p low n q)
        (λ a o g h.
        let within : o ≤ length s = omega (arith, inside (under l m) s p g) in
        (second a p o g within).refusal o within n q h) (e ∙ run-under l m f s p);
  }

  pub refuses_then : {A B : Type 0} {m : Reading A} {f : A → Reading B} → Refuses l s P m → ((a : A) → Refuses l s P (f a)) → Refuses l s P (m >>= f)
  refuses_then first second = refuses_after first (λ a p q e within. second a)

  pub refuses_done : {A : Type 0} {a : A} → Refuses l s P (done a)
  unfolding run under
  refuses_done = record { refusal = λ p low n q e. let z : ◌≡◌ {A = ℕ} 0 1 = cc in absurd (omega arith) }

  pub refuses_refuse : {A : Type 0} {w o : ℕ} → P w o → Refuses {A = A} l s P (refuse w o)
  unfolding run under
  refuses_refuse {w = w} {o} h = record {
    refusal = λ p low n q e.
        let i : n ≡ w = cc in
        let j : q ≡ o = cc in
        rw (i, j) h;
  }

  -- the place is within the bytes
  pub refuses_here : {B : Type 0} (f : ℕ → Reading B) → ((p : ℕ) → p ≤ length s → Refuses l s P (f p)) → Refuses l s P (here >>= f)
  unfolding run under here ◌>>=◌
  refuses_here f h = record { refusal = λ p low n q e. (h p low).refusal p low n q e }

  -- a field that is not wholly there is refusal 1, where it begins
  pub refuses_field : {A : Type 0} {n w : ℕ} {g : List ℕ → A} → ((q : ℕ) → q ≤ length s → P 1 q) → Refuses l s P (field n w (λ bs. done (g bs)))
  unfolding run under
  refuses_field {w = w} h = record { refusal = λ p low n q e. field-refused P (leb (p + w) (length s)) _ p _ n q (h p low) e }

  pub refuses_if : {A : Type 0} {m n : Reading A} (b : Bool) → Refuses l s P m → Refuses l s P n → Refuses l s P (if b then m else n)
  refuses_if true h g = h
  refuses_if false h g = g

  pub refuses_check : (b : Bool) (n o : ℕ) → (b ≡ false → P n o) → Refuses l s P (check b n o)
  refuses_check true n o h = refuses_done
  refuses_check false n o h = refuses_refuse (h refl)

  -- one above its ceiling is refused where it was found
  pub refuses_mark : {x : Which} {v o : ℕ} → P (too_new x) o → Refuses l s P (mark x v o)
  unfolding under
  refuses_mark {x = x} {v} {o} h = record { refusal = λ p low n q e. mark-refused P (leb v (ceiling l x)) (too_new x) o s p n q h e }

  pub refuses_each : {S A : Type 0} {m : S → Reading A} (f : S → A → S) → ((z : S) → Refuses l s P (m z)) → (n : ℕ) (z : S) → Refuses l s P (each m f n z)
  unfolding each
  refuses_each f h zero z = refuses_done
  refuses_each f h (suc n) z = refuses_then (h z) (λ a. refuses_then (refuses_each f h n (f z a)) (λ r. refuses_done))

-- what follows from what is so of each refusal
pub refuses_so : {A : Type 0} {l : Limits} {s : List ℕ} {P Q : ℕ → ℕ → Type 0} {m : Reading A} → Refuses l s P m → ((n q : ℕ) → P n q → Q n q) → Refuses l s Q m
refuses_so h f = record { refusal = λ p low n q e. f n q (h.refusal p low n q e) }

-- whether each of ns is one of ms
abbrev pub all_of : List ℕ → List ℕ → Bool
all_of [] ms = true
all_of (n ∷ ns) ms = if is_one_of n ms then all_of ns ms else false

listed_cases : (n m : ℕ) (ns ms : List ℕ) (b c : Bool) → eqb n m ≡ b → is_one_of m ms ≡ c → (all_of ns ms ≡ true → is_one_of n ns ≡ true → is_one_of n ms ≡ true)
    → (if c then all_of ns ms else false) ≡ true → (if b then true else is_one_of n ns) ≡ true → is_one_of n ms ≡ true
listed_cases n m ns ms true true e f rest all h = ap (λ x. is_one_of x ms) (eqb-true n m e) ∙ f
listed_cases n m ns ms false true e f rest all h = rest all h
listed_cases n m ns ms b false e f rest all h = let z : ◌≡◌ {A = ℕ} 0 1 = cc in absurd (omega arith)

-- one of a list is one of a list that has them all
pub listed_too : (n : ℕ) (ns ms : List ℕ) → all_of ns ms ≡ true → is_one_of n ns ≡ true → is_one_of n ms ≡ true
listed_too n [] ms all h = let z : ◌≡◌ {A = ℕ} 0 1 = cc in absurd (omega arith)
listed_too n (m ∷ ns) ms all h = listed_cases n m ns ms (eqb n m) (is_one_of m ms) refl refl (listed_too n ns ms) all h

-- with more in the list
pub refuses_too : {A : Type 0} {l : Limits} {s : List ℕ} {m : Reading A} (ns ms : List ℕ) → all_of ns ms ≡ true → Refuses l s (OneOf ns s) m → Refuses l s (OneOf ms s) m
refuses_too ns ms all h = refuses_so h (λ n q g. record { listed = listed_too n ns ms all g.listed; inside = g.inside })
