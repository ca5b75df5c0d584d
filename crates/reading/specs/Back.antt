-- What it is to read back: bytes that stand at a place, and a program that reads there what they
-- say.
use Rattle.std.specs.Prelude.{ℕ, ◌+◌, ◌≤◌, ◌≡◌, List, [], ◌∷◌, map, ◌++◌, length, take, drop}
use Rattle.reading.specs.Reading.{Reading, Answer, accepted, refused, run, seen}
use Rattle.reading.specs.Each.{times}

-- the bytes l stand in s at the place p
pub record Stands (s : List ℕ) (p : ℕ) (l : List ℕ) : Type 0 where
  pub inside : p + length l ≤ length s
  pub bytes : take (length l) (drop p s) ≡ l

-- nothing is hidden
abbrev pub same : {A : Type 0} → A → A
same a = a

-- where l stands at p, the program m reads what view shows as c, and ends right after l
pub record Back {A C : Type 0} (s : List ℕ) (view : A → C) (m : Reading A) (p : ℕ) (l : List ℕ) (c : C) : Type 0 where
  pub reads : Stands s p l → seen view (run m s p) ≡ accepted c (p + length l)

-- the list that was read, and none where it was refused
abbrev pub got : {A : Type 0} → Answer (List A) → List A
got (accepted a q) = a
got (refused n p) = []

-- n items that m reads from the place p on, each as view shows it
unfoldable pub items_there : {A C : Type 0} → (A → C) → Reading A → ℕ → List ℕ → ℕ → List C
items_there view m n s p = got (seen (map view) (run (times n m) s p))

-- every element is as P says of it and of the state that those before it made
abbrev pub Along : {S C : Type 0} → (S → C → Type 0) → (S → C → S) → S → List C → Type 0
Along P f z [] = Unit {0}
Along P f z (c ∷ cs) = P z c × Along P f (f z c) cs

-- every element is as P says
abbrev pub All : {C : Type 0} → (C → Type 0) → List C → Type 0
All P cs = Along {S = Unit {0}} (λ z. P) (λ z c. z) tt cs

-- whatever the program reads at p, with the place after it, is as P says
pub record Sure {A : Type 0} (s : List ℕ) (m : Reading A) (p : ℕ) (P : A → ℕ → Type 0) : Type 0 where
  pub holds : (a : A) (q : ℕ) → accepted a q ≡ run m s p → P a q

-- records in a row
unfoldable pub bytes_of_all : {C : Type 0} → (C → List ℕ) → List C → List ℕ
bytes_of_all enc [] = []
bytes_of_all enc (c ∷ cs) = enc c ++ bytes_of_all enc cs
