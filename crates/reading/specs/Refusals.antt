-- Which refusals a program gives, and where.
use Rattle.std.specs.Prelude.{ℕ, ◌≤◌, ◌≡◌, List, [], ◌∷◌, Bool, true, false, eqb, length, if◌then◌else◌}
use Rattle.reading.specs.Reading.{Reading, refused, run}
use Rattle.reading.specs.Ceilings.{under}
use Rattle.reading.specs.declared.Limits.{Limits}

-- whether n is one of ns
abbrev pub is_one_of : ℕ → List ℕ → Bool
is_one_of n [] = false
is_one_of n (m ∷ ns) = if eqb n m then true else is_one_of n ns

-- the refusal n at the place p is one of ns, and its place is within the bytes s
pub record OneOf (ns : List ℕ) (s : List ℕ) (n p : ℕ) : Type 0 where
  pub listed : is_one_of n ns ≡ true
  pub inside : p ≤ length s

-- whatever number and place a reader with the ceilings l refuses with, from any place within the
-- bytes s, is as P says
pub record Refuses {A : Type 0} (l : Limits) (s : List ℕ) (P : ℕ → ℕ → Type 0) (m : Reading A) : Type 0 where
  pub refusal : (p : ℕ) → p ≤ length s → (n q : ℕ) → refused n q ≡ run (under l m) s p → P n q
