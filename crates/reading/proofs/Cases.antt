-- A number is below another, or it is not. Assumes nothing.
use Prim.Native.Nat.{ℕ, ◌≤◌, ◌<◌}
use mathlib.Core.Path.{◌≡◌, refl}
use mathlib.Core.Bool.{Bool, true, false}
use lib.Dec.{ltb}
use borrow.Author.Tests.{ltb-true, ltb-false}

split_by : {G : Type 0} (t : Bool) (a b : ℕ) → ltb a b ≡ t → (a < b → G) → (b ≤ a → G) → G
split_by true a b e f g = f (ltb-true a b e)
split_by false a b e f g = g (ltb-false a b e)

-- what follows in either case holds
pub split : {G : Type 0} (a b : ℕ) → (a < b → G) → (b ≤ a → G) → G
split a b = split_by (ltb a b) a b refl
