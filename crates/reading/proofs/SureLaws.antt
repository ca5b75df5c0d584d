-- What is sure of whatever a program accepts: one law for each constructor of a program, and one
-- for a repetition. Assumes nothing.
use Rattle.std.specs.Prelude.{if◌then◌else◌}
use Prim.Native.Nat.{ℕ, zero, suc, ◌+◌, ◌≤◌}
use mathlib.Core.Path.{◌≡◌, refl, sym, ap, subst, ◌∙◌}
use mathlib.Core.List.{List, [], ◌∷◌, map}
use mathlib.Core.Bool.{Bool, true, false}
use native.Mathlib.Omega.{arith}
use lib.ListN.{length, take, drop}
use lib.Dec.{leb}
use borrow.Author.Tests.{leb-true}
use Rattle.reading.specs.Back.{got, items_there, Along, All, Sure}
use Rattle.reading.specs.Ceilings.{under, marks}
use Rattle.reading.specs.Each.{each, times}
use Rattle.reading.specs.Reading.{Which, Reading, done, refuse, field, known, accepted, refused, run, ◌>>=◌, ◌>>◌, here, check, seen}
use Rattle.reading.proofs.CeilingLaws.{ceilings, let_through}
use Rattle.reading.proofs.RunLaws.{bind_inv}
use Rattle.reading.specs.declared.Limits.{Limits}

module _ {s : List ℕ} where
  pub sure_then : {A B : Type 0} {m : Reading A} {f : A → Reading B} {p : ℕ} {P : A → ℕ → Type 0} {Q : B → ℕ → Type 0}
      → Sure s m p P → ((a : A) (q : ℕ) → P a q → Sure s (f a) q Q) → Sure s (m >>= f) p Q
  sure_then {m = m} {f} {p} first rest = record {
    holds = λ b r e.
        let i = bind_inv m f s p e in
        (rest i.0 i.1 (first.holds i.0 i.1 i.2)).holds b r i.3;
  }

  pub sure_done : {A : Type 0} {a : A} {p : ℕ} {Q : A → ℕ → Type 0} → Q a p → Sure s (done a) p Q
  unfolding run
  sure_done {a = a} {p} {Q} h = record {
    holds = λ b r e.
        let i : b ≡ a = cc in
        let j : r ≡ p = cc in
        rw (i, j) h;
  }

  pub sure_refuse : {A : Type 0} {n o p : ℕ} {Q : A → ℕ → Type 0} → Sure s (refuse n o) p Q
  unfolding run
  sure_refuse = record { holds = λ b r e. let z : ◌≡◌ {A = ℕ} 0 1 = cc in absurd (omega arith) }

  pub sure_here : {B : Type 0} {p : ℕ} {Q : B → ℕ → Type 0} (f : ℕ → Reading B) → Sure s (f p) p Q → Sure s (here >>= f) p Q
  unfolding run here ◌>>=◌
  sure_here f h = record { holds = h.holds }

  pub sure_once : {A B : Type 0} {a : A} {p : ℕ} {Q : B → ℕ → Type 0} (f : A → Reading B) → Sure s (f a) p Q → Sure s (done a >>= f) p Q
  unfolding ◌>>=◌
  sure_once f h = h

  pub sure_stop : {A B : Type 0} {p : ℕ} {Q : B → ℕ → Type 0} (n o : ℕ) (f : A → Reading B) → Sure s (refuse n o >>= f) p Q
  unfolding ◌>>=◌
  sure_stop n o f = sure_refuse

  pub sure_mark : {A B : Type 0} {a : A} {p : ℕ} {Q : B → ℕ → Type 0} (x : Which) (n o : ℕ) (f : A → Reading B) → Sure s (f a) p Q → Sure s (known x n o (done a) >>= f) p Q
  unfolding run ◌>>=◌
  sure_mark x n o f h = record { holds = h.holds }

  pub sure_check : {B : Type 0} {p : ℕ} {Q : B → ℕ → Type 0} (b : Bool) (n o : ℕ) (m : Reading B) → (b ≡ true → Sure s m p Q) → Sure s (check b n o >> m) p Q
  sure_check true n o m h = sure_once _ (h refl)
  sure_check false n o m h = sure_stop n o _

  pub sure_if : {B : Type 0} {p : ℕ} {Q : B → ℕ → Type 0} (b : Bool) (m n : Reading B) → (b ≡ true → Sure s m p Q) → (b ≡ false → Sure s n p Q) → Sure s (if b then m else n) p Q
  sure_if true m n h g = h refl
  sure_if false m n h g = g refl

  -- a repetition: as many as were asked for, each as P says of it and of the state that it was
  -- given
  pub sure_each : {S A : Type 0} {P : S → A → Type 0} (m : S → Reading A) (f : S → A → S) → ((z : S) (p : ℕ) → Sure s (m z) p (λ a q. P z a))
      → (n : ℕ) (z : S) (p : ℕ) → Sure s (each m f n z) p (λ l q. (length l ≡ n) × Along P f z l)
  unfolding each
  sure_each m f one zero z p = sure_done (refl, tt)
  sure_each m f one (suc n) z p =
      sure_then (one z p) (λ a q h. sure_then (sure_each m f one n (f z a) q) (λ l r g. sure_done (ap suc g.0, (h, g.1))))

field_cases : {A : Type 0} (s : List ℕ) (w p : ℕ) (a b : A) (q : ℕ) (Q : A → ℕ → Type 0) (t : Bool) → leb (p + w) (length s) ≡ t → (p + w ≤ length s → Q a (p + w))
    → accepted b q ≡ (if t then accepted a (p + w) else refused 1 p) → Q b q
field_cases s w p a b q Q true h f e =
    let i : b ≡ a = cc in
    let j : q ≡ p + w = cc in
    rw (i, j) (f (leb-true _ _ h))
field_cases s w p a b q Q false h f e = let z : ◌≡◌ {A = ℕ} 0 1 = cc in absurd (omega arith)

-- a field that is there, and what is made of its first bytes
pub sure_field : {A : Type 0} {s : List ℕ} {n w p : ℕ} {g : List ℕ → A} {Q : A → ℕ → Type 0} → (p + w ≤ length s → Q (g (take n (take w (drop p s)))) (p + w))
    → Sure s (field n w (λ bs. done (g bs))) p Q
unfolding run
sure_field {s = s} {n} {w} {p} {g} {Q} f =
    record { holds = λ b q e. field_cases s w p (g (take n (take w (drop p s)))) b q Q (leb (p + w) (length s)) refl f e }

-- what is sure, and the run itself
pub sure_run : {A : Type 0} {s : List ℕ} {m : Reading A} {p : ℕ} {P : A → ℕ → Type 0} → Sure s m p P → Sure s m p (λ a q. P a q × (accepted a q ≡ run m s p))
sure_run h = record { holds = λ a q e. (h.holds a q e, e) }

-- a view that reads the items again finds what was read
pub items-again : {A C : Type 0} (view : A → C) (m : Reading A) (n : ℕ) (s : List ℕ) (p : ℕ) {l : List A} {q : ℕ} → accepted l q ≡ run (times n m) s p → items_there view m n s p ≡ map view l
unfolding items_there seen
items-again view m n s p e = ap (λ r. got (seen (map view) r)) (sym e)

pub all_map : {A C : Type 0} {P : A → Type 0} (Q : C → Type 0) (view : A → C) → ((a : A) → P a → Q (view a)) → (l : List A) → All P l → All Q (map view l)
all_map Q view f [] h = tt
all_map Q view f (a ∷ l) h = (f a h.0, all_map Q view f l h.1)

-- what is sure of a program is sure of it under ceilings too
pub sure_under : {A : Type 0} {s : List ℕ} {m : Reading A} {p : ℕ} {P : A → ℕ → Type 0} (l : Limits) → Sure s m p P → Sure s (under l m) p P
sure_under {s = s} {m} {p} l h = record { holds = λ a q e. h.holds a q (let_through l (marks m s p) _ (e ∙ ceilings l m s p)) }

-- what follows from what is sure
pub sure_so : {A : Type 0} {s : List ℕ} {m : Reading A} {p : ℕ} {P Q : A → ℕ → Type 0} → Sure s m p P → ((a : A) (q : ℕ) → P a q → Q a q) → Sure s m p Q
sure_so h f = record { holds = λ a q e. f a q (h.holds a q e) }

-- a list as a view shows it, where the state goes on as the view shows it too
pub along_map : {S A C : Type 0} {P : S → A → Type 0} {f : S → A → S} (Q : S → C → Type 0) (g : S → C → S) (view : A → C)
    → ((z : S) (a : A) → P z a → Q z (view a) × (f z a ≡ g z (view a))) → (l : List A) (z : S) → Along P f z l → Along Q g z (map view l)
along_map Q g view h [] z all = tt
along_map {f = f} Q g view h (a ∷ l) z all =
    let i = h z a all.0 in
    (i.0, subst (λ y. Along Q g y (map view l)) i.1 (along_map Q g view h l (f z a) all.1))

-- a list as a view shows it is made of what another view shows
pub map-through : {A C D : Type 0} {P : A → Type 0} (view : A → D) (g : C → D) (f : A → C) → ((a : A) → P a → view a ≡ g (f a)) → (l : List A) → All P l → map view l ≡ map g (map f l)
map-through view g f h [] all = refl
map-through view g f h (a ∷ l) all = rw (h a all.0, map-through view g f h l all.1)

-- of what nothing is asked everything is sure
pub whatever : {A : Type 0} {s : List ℕ} {m : Reading A} {p : ℕ} → Sure s m p (λ a q. Unit {0})
whatever = record { holds = λ a q e. tt }
