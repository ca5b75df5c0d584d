-- Back from what is told of an answer: a bad one is a refusal, with some number and some place, and
-- any other is accepted. Assumes nothing.
use Rattle.std.specs.Prelude.{Some, None, Ok, Err}
use Prim.Native.Nat.{ℕ, ◌+◌, ◌-◌, ◌<◌}
use mathlib.Core.Path.{◌≡◌, refl, sym, ap, ◌∙◌}
use mathlib.Core.List.{List}
use mathlib.Core.Bool.{true}
use native.Mathlib.Omega.{arith}
use lib.ListN.{length}
use Rattle.reading.specs.Reading.{Reading, Answer, accepted, refused, run, and_then, seen, is_accepted}
use Rattle.reading.specs.Each.{times}
use Rattle.reading.proofs.Sames.{same_found, same_ok_pair}
use Rattle.reading.proofs.Repetition.{times-stops, times-passed, times-never}
use Rattle.tensors.specs.declared.Shape.{Shape}
use Rattle.values.specs.declared.Span.{Span}
use Rattle.sheet.specs.Format.{Text, SheetEntry, SheetTensor}
use Rattle.sheet.specs.Sheet.{span_of, entry_of, tensor_of}
use Rattle.sheet.specs.declared.EntryParts.{EntryParts}
use Rattle.sheet.specs.declared.TensorParts.{TensorParts}
use Rattle.sheet.specs.Steps.{step_of, shape_of, count_of}

-- a refusal
pub record Refusal {A : Type 0} (r : Answer A) : Type 0 where
  pub why : ℕ
  pub place : ℕ
  pub is : refused why place ≡ r

-- what was accepted, with the place q after it, and what is shown of it as x
pub record Shows {A X : Type 0} (view : A → X) (x : X) (q : ℕ) (r : Answer A) : Type 0 where
  pub what : A
  pub is : accepted what q ≡ r
  pub told : x ≡ view what

-- a view of answers that tells refusals from the others refuses only them
only : {A X : Type 0} (view : Answer A → X) (bad : X) → ((a : A) (q : ℕ) → bad ≡ view (accepted a q) → ⊥) → (r : Answer A) → bad ≡ view r → Refusal r
only view bad never (accepted a q) e = absurd (never a q e)
only view bad never (refused n p) e = record { why = n; place = p; is = refl }

-- only the place after it
pub step_no : {A : Type 0} (r : Answer A) → None ≡ step_of r → Refusal r
step_no r e = only step_of None (λ a q h. let z : ◌≡◌ {A = ℕ} 0 1 = cc in absurd (omega arith)) r e

pub step_yes : {A : Type 0} (r : Answer A) {q : ℕ} → Some q ≡ step_of r → Shows (λ a. tt {0}) tt q r
step_yes (accepted a p) {q} e = let k : q ≡ p = cc in record { what = a; is = ap (accepted a) k; told = refl }
step_yes (refused n p) e = let z : ◌≡◌ {A = ℕ} 0 1 = cc in absurd (omega arith)

pub step_there : {A : Type 0} (r : Answer A) {q : ℕ} → Some q ≡ step_of r → is_accepted r ≡ true
step_there r e = ap is_accepted (sym (step_yes r e).is)

-- a text's place
pub span_no : (r : Answer Text) → None ≡ span_of r → Refusal r
span_no r e = only span_of None (λ a q h. let z : ◌≡◌ {A = ℕ} 0 1 = cc in absurd (omega arith)) r e

pub span_yes : (r : Answer Text) {a : Span} {q : ℕ} → Some (a, q) ≡ span_of r → Shows (λ (t : Text). t.span) a q r
span_yes (accepted t p) e = let z = same_found _ _ _ _ e in record { what = t; is = ap (accepted t) z.1; told = z.0 }
span_yes (refused n p) e = let z : ◌≡◌ {A = ℕ} 0 1 = cc in absurd (omega arith)

-- the parts of an entry
pub entry_no : (r : Answer SheetEntry) → None ≡ entry_of r → Refusal r
entry_no r e = only entry_of None (λ a q h. let z : ◌≡◌ {A = ℕ} 0 1 = cc in absurd (omega arith)) r e

pub entry_yes : (r : Answer SheetEntry) {x : EntryParts} {q : ℕ} → Some (x, q) ≡ entry_of r → Shows (λ (l : SheetEntry). l.parts) x q r
entry_yes (accepted l p) e = let z = same_found _ _ _ _ e in record { what = l; is = ap (accepted l) z.1; told = z.0 }
entry_yes (refused n p) e = let z : ◌≡◌ {A = ℕ} 0 1 = cc in absurd (omega arith)

-- a shape
pub shape_no : (r : Answer Shape) → None ≡ shape_of r → Refusal r
shape_no r e = only shape_of None (λ a q h. let z : ◌≡◌ {A = ℕ} 0 1 = cc in absurd (omega arith)) r e

pub shape_yes : (r : Answer Shape) {x : Shape} {q : ℕ} → Some (x, q) ≡ shape_of r → accepted x q ≡ r
shape_yes (accepted y p) e = let z = same_found _ _ _ _ e in rw (z.0, z.1) refl
shape_yes (refused n p) e = let z : ◌≡◌ {A = ℕ} 0 1 = cc in absurd (omega arith)

-- the parts of a tensor
pub tensor_no : (r : Answer SheetTensor) → None ≡ tensor_of r → Refusal r
tensor_no r e = only tensor_of None (λ a q h. let z : ◌≡◌ {A = ℕ} 0 1 = cc in absurd (omega arith)) r e

pub tensor_yes : (r : Answer SheetTensor) {x : TensorParts} {q : ℕ} → Some (x, q) ≡ tensor_of r → Shows (λ (t : SheetTensor). t.parts) x q r
tensor_yes (accepted t p) e = let z = same_found _ _ _ _ e in record { what = t; is = ap (accepted t) z.1; told = z.0 }
tensor_yes (refused n p) e = let z : ◌≡◌ {A = ℕ} 0 1 = cc in absurd (omega arith)

-- how many there are
pub count_no : {A : Type 0} (r : Answer (List A)) {p : ℕ} → Err p ≡ count_of r → (n : ℕ) × (refused n p ≡ r)
count_no (accepted l q) e = let z : ◌≡◌ {A = ℕ} 0 1 = cc in absurd (omega arith)
count_no (refused n o) {p} e = let k : p ≡ o = cc in (n, ap (refused n) k)

pub count_yes : {A : Type 0} (r : Answer (List A)) {n q : ℕ} → Ok (n, q) ≡ count_of r → Shows length n q r
count_yes (accepted l p) e = let z = same_ok_pair _ _ _ _ e in record { what = l; is = ap (accepted l) z.1; told = z.0 }
count_yes (refused m p) e = let z : ◌≡◌ {A = ℕ} 0 1 = cc in absurd (omega arith)

-- what is made of what was read does not move the place after it
pub step_then : {A B : Type 0} (g : A → B) (r : Answer A) → step_of (and_then r (λ a q. accepted (g a) q)) ≡ step_of r
unfolding and_then
step_then g (accepted a q) = refl
step_then g (refused n p) = refl

-- nor does what is seen of it
pub step_seen : {A C : Type 0} (view : A → C) (r : Answer A) → step_of (seen view r) ≡ step_of r
unfolding seen
step_seen view (accepted a q) = refl
step_seen view (refused n p) = refl

-- a turn of a repetition of which only the place is told
module _ {A : Type 0} (m : Reading A) (s : List ℕ) (at n i : ℕ) (below : i < n) where
  pub steps_on : {q : ℕ} → Some q ≡ step_of (run m s at) → step_of (run (times (n - i) m) s at) ≡ step_of (run (times (n - (i + 1)) m) s q)
  steps_on e =
      sym (step_seen (λ l. tt {0}) (run (times (n - i) m) s at)) ∙ ap step_of (times-passed m s at n i below (step_yes (run m s at) e).is) ∙ step_seen (λ l. tt {0}) (run (times (n - (i + 1)) m) s _)

  pub steps-not : None ≡ step_of (run m s at) → step_of (run (times (n - i) m) s at) ≡ None
  steps-not e = ap step_of (times-stops m s at n i below (step_no (run m s at) e).is)

  -- where all that are left are there, so is the next
  pub next-there : is_accepted (run (times (n - i) m) s at) ≡ true → is_accepted (run m s at) ≡ true
  next-there all = by (run m s at) refl
    where
      by : (r : Answer A) → r ≡ run m s at → is_accepted r ≡ true
      by (accepted a q) e = refl
      by (refused w p) e = absurd (times-never m s at n i below e all)
