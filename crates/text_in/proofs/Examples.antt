-- Known numbers of texts, computed by the checker. Assumes nothing.
use Prim.Native.Nat.{◌^◌, ◌-◌}
use mathlib.Core.Path.{◌≡◌, refl}
use mathlib.Core.List.{[], ◌∷◌}
use Rattle.text_in.specs.Decimal.{number_from, number_of}
use Rattle.std.specs.Prelude.{Some, None}

-- "0", "134" and "007"
numbers : (number_of (48 ∷ []) ≡ Some 0) × (number_of (49 ∷ 51 ∷ 52 ∷ []) ≡ Some 134) × (number_of (48 ∷ 48 ∷ 55 ∷ []) ≡ Some 7)
unfolding number_of number_from
numbers = (refl, refl, refl)

-- "18446744073709551615" and one more
greatest : number_of (49 ∷ 56 ∷ 52 ∷ 52 ∷ 54 ∷ 55 ∷ 52 ∷ 52 ∷ 48 ∷ 55 ∷ 51 ∷ 55 ∷ 48 ∷ 57 ∷ 53 ∷ 53 ∷ 49 ∷ 54 ∷ 49 ∷ 53 ∷ []) ≡ Some (2 ^ 64 - 1)
unfolding number_of number_from
greatest = refl

one_more : number_of (49 ∷ 56 ∷ 52 ∷ 52 ∷ 54 ∷ 55 ∷ 52 ∷ 52 ∷ 48 ∷ 55 ∷ 51 ∷ 55 ∷ 48 ∷ 57 ∷ 53 ∷ 53 ∷ 49 ∷ 54 ∷ 49 ∷ 54 ∷ []) ≡ None
unfolding number_of number_from
one_more = refl

-- nothing, "-1", "1:" and "1 "
no_numbers : (number_of [] ≡ None) × (number_of (45 ∷ 49 ∷ []) ≡ None) × (number_of (49 ∷ 58 ∷ []) ≡ None) × (number_of (49 ∷ 32 ∷ []) ≡ None)
unfolding number_of number_from
no_numbers = (refl, refl, refl, refl)
