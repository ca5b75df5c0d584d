-- What is folded over a list that was read, from what is seen of it and of a part that is left.
-- Assumes nothing.
use Prim.Native.Nat.{ℕ}
use mathlib.Core.Path.{◌≡◌, ap, ◌∙◌}
use mathlib.Core.List.{List, []}
use mathlib.Core.Bool.{true}
use native.Mathlib.Omega.{arith}
use Rattle.reading.specs.Back.{got}
use Rattle.reading.specs.Each.{fold}
use Rattle.reading.specs.Reading.{Answer, accepted, refused, seen, is_accepted}

module _ {S A : Type 0} (f : S → A → S) (z y : S) where
  ended : (whole : Answer (List A)) {q : ℕ} → seen (fold f z) whole ≡ accepted y q → y ≡ fold f z (got whole)
  unfolding seen
  ended (accepted l p) e = cc
  ended (refused n p) e = let o : ◌≡◌ {A = ℕ} 0 1 = cc in absurd (omega arith)

  stopped : (whole : Answer (List A)) → is_accepted whole ≡ true → {n p : ℕ} → seen (fold f z) whole ≡ refused n p → ⊥
  unfolding seen
  stopped (accepted l p) all e = let o : ◌≡◌ {A = ℕ} 0 1 = cc in omega arith
  stopped (refused n p) all e = let o : ◌≡◌ {A = ℕ} 0 1 = cc in omega arith

  module _ (whole left : Answer (List A)) (e : seen (fold f z) whole ≡ seen (fold f y) left) where
    -- where nothing is left
    pub folded : {q : ℕ} → left ≡ accepted [] q → y ≡ fold f z (got whole)
    unfolding seen
    folded g = ended whole (e ∙ ap (seen (fold f y)) g)

    -- where all are there, what is left is not refused
    pub never : is_accepted whole ≡ true → {n p : ℕ} → left ≡ refused n p → ⊥
    unfolding seen
    never all g = stopped whole all (e ∙ ap (seen (fold f y)) g)
