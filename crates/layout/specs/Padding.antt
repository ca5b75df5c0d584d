-- Multiples, and a number rounded up to one.
use Rattle.std.specs.Prelude.{ℕ, ◌+◌, ◌-◌, ◌*◌, ◌/◌, ◌%◌, Bool, leb, eqb, if◌then◌else◌, Option, Some, None}
use Rattle.kinds.specs.Shape.{greatest}

-- whether n is a multiple of a
abbrev pub is_multiple : ℕ → ℕ → Bool
is_multiple a n = eqb (n % a) 0

-- the least multiple of a that is not below n; n itself where a is 0
abbrev pub padded : ℕ → ℕ → ℕ
padded a n = if eqb a 0 then n else (n + (a - 1)) / a * a

-- what `pad` answers
abbrev pub padded_of : ℕ → ℕ → Option ℕ
padded_of a n = if leb (padded a n) greatest then Some (padded a n) else None
