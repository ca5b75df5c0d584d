-- What is left of a room: one part taken after another is both at once, and so are the parts that a
-- loop takes. Assumes nothing.
use Rattle.std.specs.Prelude.{if◌then◌else◌, Option, Some, None}
use Prim.Native.Nat.{ℕ, ◌+◌, ◌-◌, ◌≤◌, ◌<◌}
use mathlib.Core.Path.{◌≡◌, refl, sym, ap, ◌∙◌}
use mathlib.Core.Bool.{Bool, true, false}
use mathlib.Core.List.{List, [], ◌∷◌}
use native.Mathlib.Omega.{arith}
use lib.Dec.{leb}
use borrow.Author.Tests.{le-leb, lt-leb, leb-true, leb-false}
use Rattle.reading.specs.Back.{got}
use Rattle.reading.specs.Each.{times}
use Rattle.reading.specs.Reading.{Reading, accepted, run, is_accepted}
use Rattle.reading.proofs.Repetition.{times-got, times-ends}
use Rattle.plan.specs.Steps.{taken_from}

-- what fits is left, and what does not leaves nothing
pub taken_fits : {r n : ℕ} → n ≤ r → taken_from (Some r) n ≡ Some (r - n)
unfolding taken_from
taken_fits {r} {n} h = rw (le-leb n r h)

pub taken_over : {r n : ℕ} → r < n → taken_from (Some r) n ≡ None
unfolding taken_from
taken_over {r} {n} h = rw (lt-leb n r h)

pub taken_none : (r : Option ℕ) → taken_from r 0 ≡ r
unfolding taken_from
taken_none (Some r) = taken_fits {r = r} {n = 0} (omega arith) ∙ ap Some (omega arith)
taken_none None = refl

fits_cases : (r a b : ℕ) → a ≤ r → (t : Bool) → leb (a + b) r ≡ t → taken_from (Some (r - a)) b ≡ (if t then Some (r - (a + b)) else None)
unfolding taken_from
fits_cases r a b h true e =
    let i : a + b ≤ r = leb-true _ _ e in
    let j : r - a - b ≡ r - (a + b) = omega arith in
    rw (le-leb b (r - a) (omega arith)) (ap Some j)
fits_cases r a b h false e =
    let i : r < a + b = leb-false _ _ e in
    rw (lt-leb b (r - a) (omega arith))

twice_cases : (r a b : ℕ) (t : Bool) → leb a r ≡ t → taken_from (taken_from (Some r) a) b ≡ taken_from (Some r) (a + b)
unfolding taken_from
twice_cases r a b true e =
    let i : a ≤ r = leb-true _ _ e in
    ap (λ x. taken_from x b) (taken_fits i) ∙ fits_cases r a b i (leb (a + b) r) refl
twice_cases r a b false e =
    let i : r < a = leb-false _ _ e in
    let j : r < a + b = omega arith in
    rw (lt-leb a r i, lt-leb (a + b) r j)

pub taken_twice : (r : Option ℕ) (a b : ℕ) → taken_from (taken_from r a) b ≡ taken_from r (a + b)
unfolding taken_from
taken_twice (Some r) a b = twice_cases r a b (leb a r) refl
taken_twice None a b = refl

-- three parts
pub taken_thrice : (r : Option ℕ) (a b c : ℕ) → taken_from (taken_from (taken_from r a) b) c ≡ taken_from r (a + b + c)
taken_thrice r a b c = taken_twice (taken_from r a) b c ∙ taken_twice r a (b + c) ∙ ap (taken_from r) (omega arith)

-- a loop that takes records, which are all there, one after the other, where size says how long a
-- list of them is: the next one and those after it, or none
module _ {A : Type 0} (size : List A → ℕ) (m : Reading A) (s : List ℕ) (from n i : ℕ) (left : Option ℕ) where
  pub room-turn : i < n → is_accepted (run (times (n - i) m) s from) ≡ true → {a : A} {q : ℕ} → accepted a q ≡ run m s from → (part : ℕ) → ((l : List A) → size (a ∷ l) ≡ part + size l)
      → taken_from left (size (got (run (times (n - i) m) s from))) ≡ taken_from (taken_from left part) (size (got (run (times (n - (i + 1)) m) s q)))
  room-turn below all {q = q} e part more =
      let rest = got (run (times (n - (i + 1)) m) s q) in
      ap (λ l. taken_from left (size l)) (times-got m s from n i below e all) ∙ ap (taken_from left) (more rest) ∙ sym (taken_twice left part (size rest))

  pub room-end : size [] ≡ 0 → n ≤ i → taken_from left (size (got (run (times (n - i) m) s from))) ≡ left
  room-end none past = ap (λ r. taken_from left (size (got r))) (times-ends m s from n i past) ∙ ap (taken_from left) none ∙ taken_none left
