-- A search from the front: through a list, and by a program that reads nothing after the first that
-- is asked for.
use Rattle.std.specs.Prelude.{ℕ, zero, suc, ◌+◌, Bool, List, [], ◌∷◌, if◌then◌else◌}
use Rattle.reading.specs.Reading.{Reading, done, ◌>>=◌}

-- what a search comes to: what was found, or that there is none; and how many were passed, the one
-- that was found counted
pub data Search (A : Type 0) : Type 0 where
  found : A → ℕ → Search A
  none : ℕ → Search A

-- through a list, where i were passed before: the first of which the test holds
abbrev pub first_of : {A : Type 0} → (A → Bool) → ℕ → List A → Search A
first_of test i [] = none i
first_of test i (a ∷ l) = if test a then found a (i + 1) else first_of test (i + 1) l

-- something that was read, and whether it is asked for
pub record Looked (A : Type 0) : Type 0 where
  pub what : A
  pub asked : Bool

-- by a program that is given the state so far, at most n times, where i were passed before: what was
-- read changes the state, unless it is asked for, and then nothing more is read
unfoldable pub seek : {S A : Type 0} → (S → Reading (Looked A)) → (S → A → S) → ℕ → S → ℕ → Reading (Search A)
seek m f zero z i = done (none i)
seek m f (suc n) z i = do
  x ← m z
  if x.asked then done (found x.what (i + 1)) else seek m f n (f z x.what) (i + 1)
