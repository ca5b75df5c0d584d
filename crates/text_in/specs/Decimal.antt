-- The number that a text says in decimal.
use Rattle.std.specs.Prelude.{ℕ, ◌+◌, ◌-◌, ◌*◌, ◌^◌, Option, Some, None, List, [], ◌∷◌, Bool, false, leb, ltb, if◌then◌else◌}

-- whether a byte is one of the digits, 48 to 57
abbrev pub is_digit : ℕ → Bool
is_digit b = if leb 48 b then leb b 57 else false

-- the number n with a digit more
abbrev pub with_digit : ℕ → ℕ → ℕ
with_digit n b = 10 * n + (b - 48)

-- the number that further digits make of n; none where a byte is no digit, or where it takes
-- more than 64 bits
unfoldable pub number_from : ℕ → List ℕ → Option ℕ
number_from n [] = Some n
number_from n (b ∷ bs) = if is_digit b then (if ltb (with_digit n b) (2 ^ 64) then number_from (with_digit n b) bs else None) else None

-- the number of a text: one digit at least
unfoldable pub number_of : List ℕ → Option ℕ
number_of [] = None
number_of (b ∷ bs) = number_from 0 (b ∷ bs)
