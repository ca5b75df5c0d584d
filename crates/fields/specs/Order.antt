-- The byte order of texts.
use Rattle.std.specs.Prelude.{ℕ, Bool, true, false, List, [], ◌∷◌, ltb, eqb, if◌then◌else◌}

-- whether one text comes before another: at the first byte where they differ it has the lesser one,
-- or it is the other's front and shorter
abbrev pub before : List ℕ → List ℕ → Bool
before [] [] = false
before [] (y ∷ ys) = true
before (x ∷ xs) [] = false
before (x ∷ xs) (y ∷ ys) = if ltb x y then true else if eqb x y then before xs ys else false
