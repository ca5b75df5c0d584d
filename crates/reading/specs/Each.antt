-- Repetition: so many times a program, with or without a state that goes through it; a test of each
-- of a list; and the table that its rows fill.
use Rattle.std.specs.Prelude.{ℕ, zero, suc, Bool, List, [], ◌∷◌, ◌++◌, map, length, drop}
use Rattle.reading.specs.Reading.{Reading, done, Answer, accepted, refused, ◌>>=◌, ◌>>◌, check}

-- n times a program that is given the state so far, which what it read then changes; and what each
-- time read
unfoldable pub each : {S A : Type 0} → (S → Reading A) → (S → A → S) → ℕ → S → Reading (List A)
each m f zero z = done []
each m f (suc n) z = do
  a ← m z
  more ← each m f n (f z a)
  done (a ∷ more)

-- n times the same program: nothing goes through it
abbrev pub times : {A : Type 0} → ℕ → Reading A → Reading (List A)
times n m = each {S = Unit {0}} (λ z. m) (λ z a. z) n tt

-- goes on where the test holds of each of a list, and else is refusal n, at the place of the first
-- of which it does not
unfoldable pub check_each : {A : Type 0} → (A → Bool) → ℕ → (A → ℕ) → List A → Reading (Unit {0})
check_each test n place_of [] = done tt
check_each test n place_of (a ∷ l) = check (test a) n (place_of a) >> check_each test n place_of l

-- the state after all of them
abbrev pub fold : {S A : Type 0} → (S → A → S) → S → List A → S
fold f z [] = z
fold f z (a ∷ l) = fold f (f z a) l

-- the table with a row for each in front, where they were accepted; else the table as it was
abbrev pub filled : {A B : Type 0} → (A → B) → List B → Answer (List A) → List B
filled row old (accepted l q) = map row l ++ drop (length l) old
filled row old (refused n p) = old
