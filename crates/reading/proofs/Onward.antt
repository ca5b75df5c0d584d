-- Places only grow, so what holds up to an earlier place holds up to a later one, and of each item
-- of a repetition up to the end of the last. Assumes nothing.
use Rattle.std.specs.Prelude.{if◌then◌else◌}
use Prim.Native.Nat.{ℕ, zero, suc, ◌+◌, ◌≤◌}
use mathlib.Core.Path.{◌≡◌}
use mathlib.Core.List.{List, [], ◌∷◌}
use mathlib.Core.Bool.{Bool, true, false}
use native.Mathlib.Omega.{arith}
use lib.ListN.{length, take, drop}
use lib.Dec.{leb}
use Rattle.reading.specs.Back.{All, Sure}
use Rattle.reading.specs.Each.{each}
use Rattle.reading.specs.Reading.{Reading, done, refuse, place, field, known, Answer, accepted, refused, run}
use Rattle.reading.proofs.SureLaws.{sure_then, sure_done, sure_run}

onward-next : {A : Type 0} (r : Answer A) (at w : ℕ) {a : A} {q : ℕ} (b : Bool) → (accepted a q ≡ r → at + w ≤ q) → accepted a q ≡ (if b then r else refused 1 at) → at ≤ q
onward-next r at w true f e = omega (arith, f e)
onward-next r at w false f e = let z : ◌≡◌ {A = ℕ} 0 1 = cc in absurd (omega arith)

-- the place after what was read is not before the place where it began
pub onward : {A : Type 0} (m : Reading A) (s : List ℕ) (at : ℕ) {a : A} {q : ℕ} → accepted a q ≡ run m s at → at ≤ q
unfolding run
onward (done b) s at {a} {q} e = let k : q ≡ at = cc in omega arith
onward (refuse n p) s at e = let z : ◌≡◌ {A = ℕ} 0 1 = cc in absurd (omega arith)
onward (place k) s at e = onward (k at) s at e
onward (field l w k) s at e = onward-next _ at w (leb (at + w) (length s)) (onward (k (take l (take w (drop at s)))) s (at + w)) e
onward (known x v p m) s at e = onward m s at e

-- what follows of each element holds of all
pub all_so : {A : Type 0} {P Q : A → Type 0} → ((a : A) → P a → Q a) → (l : List A) → All P l → All Q l
all_so f [] h = tt
all_so f (a ∷ l) h = (f a h.0, all_so f l h.1)

-- what holds of each item up to its end holds of all of them up to the end of the last
pub sure_each-by : {S A : Type 0} {s : List ℕ} {P : ℕ → A → Type 0} (m : S → Reading A) (f : S → A → S) → ((e later : ℕ) → e ≤ later → (a : A) → P e a → P later a)
    → ((z : S) (p : ℕ) → Sure s (m z) p (λ a q. P q a)) → (n : ℕ) (z : S) (p : ℕ) → Sure s (each m f n z) p (λ l q. All (P q) l)
unfolding each
sure_each-by m f keeps one zero z p = sure_done tt
sure_each-by {s = s} m f keeps one (suc n) z p =
    sure_then (one z p) (λ a q h. sure_then (sure_run (sure_each-by m f keeps one n (f z a) q)) (λ l r g.
    sure_done (keeps q r (onward (each m f n (f z a)) s q g.1) a h, g.0)))
