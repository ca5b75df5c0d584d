-- A test of each of a list, last of all: what is sure where it was passed, how it refuses, that it
-- has no mark, and that it changes nothing where it holds of all. Assumes nothing.
use Prim.Native.Nat.{ℕ}
use mathlib.Core.Path.{◌≡◌, refl, sym, subst}
use mathlib.Core.List.{List, [], ◌∷◌}
use mathlib.Core.Bool.{Bool, true, false}
use Rattle.reading.specs.Back.{Back, All, Sure}
use Rattle.reading.specs.Ceilings.{Low}
use Rattle.reading.specs.Each.{check_each}
use Rattle.reading.specs.Reading.{Reading, done, ◌>>=◌, ◌>>◌}
use Rattle.reading.specs.Refusals.{Refuses}
use Rattle.reading.specs.declared.Limits.{Limits}
use Rattle.reading.proofs.BackLaws.{at_once}
use Rattle.reading.proofs.CeilingLaws.{low-checked, low-done}
use Rattle.reading.proofs.RefusalLaws.{refuses_then, refuses_done, refuses_check}
use Rattle.reading.proofs.SureLaws.{sure_check, sure_done, sure_so}

module _ {A : Type 0} (test : A → Bool) (n : ℕ) (place_of : A → ℕ) where
  -- where it was passed the test holds of each, and nothing was read
  pub sure_check-each : {s : List ℕ} {p : ℕ} (l : List A) → Sure s (check_each test n place_of l) p (λ u q. (q ≡ p) × All (λ (a : A). test a ≡ true) l)
  unfolding check_each
  sure_check-each [] = sure_done (refl, tt)
  sure_check-each (a ∷ l) = sure_check (test a) n (place_of a) _ (λ e. sure_so (sure_check-each l) (λ u q h. (h.0, (e, h.1))))

  -- it has no mark
  pub low-check-each : (limits : Limits) (l : List A) → Low limits (check_each test n place_of l)
  unfolding check_each
  low-check-each limits [] = low-done limits tt
  low-check-each limits (a ∷ l) = low-checked limits (test a) n (place_of a) _ (λ e. low-check-each limits l)

  -- it refuses as P says, if P holds of the place of each of which the test does not hold
  pub refuses_check-each : {limits : Limits} {s : List ℕ} {P : ℕ → ℕ → Type 0} (l : List A) → All (λ (a : A). test a ≡ false → P n (place_of a)) l → Refuses limits s P (check_each test n place_of l)
  unfolding check_each
  refuses_check-each [] h = refuses_done
  refuses_check-each (a ∷ l) h = refuses_then (refuses_check (test a) n (place_of a) h.0) (λ u. refuses_check-each l h.1)

  -- where the test holds of all there is nothing to it
  pub all_hold : (l : List A) → All (λ (a : A). test a ≡ true) l → check_each test n place_of l ≡ done tt
  unfolding check_each ◌>>=◌
  all_hold [] h = refl
  all_hold (a ∷ l) h = rw (h.0, all_hold l h.1) refl

  -- and so what follows reads back
  pub checked-each : {s : List ℕ} {B D : Type 0} {view : B → D} {p : ℕ} {bs : List ℕ} {d : D} {m : Reading B} (l : List A) → All (λ (a : A). test a ≡ true) l → Back s view m p bs d
      → Back s view (check_each test n place_of l >> m) p bs d
  checked-each {s} {view = view} {p} {bs} {d} {m} l h back = subst (λ x. Back s view (x >> m) p bs d) (sym (all_hold l h)) (at_once _ back)
