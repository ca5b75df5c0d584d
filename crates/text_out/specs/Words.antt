-- Numbers in decimal, and words with a number, as bytes.
use Rattle.std.specs.Prelude.{ℕ, zero, suc, ◌+◌, ◌/◌, ◌%◌, List, [], ◌∷◌, ◌++◌, ltb, if◌then◌else◌}

-- the last digits of a number in decimal, at most so many, with no zero in front
unfoldable pub digits : ℕ → ℕ → List ℕ
digits zero n = []
digits (suc most) n = (if ltb n 10 then [] else digits most (n / 10)) ++ ((48 + n % 10) ∷ [])

-- a number in decimal: 20 digits are enough for 64 bits
unfoldable pub decimal : ℕ → List ℕ
decimal n = digits 20 n

-- a word, and a number right after it
unfoldable pub labelled : List ℕ → ℕ → List ℕ
labelled word n = word ++ decimal n

-- the end of a line
abbrev pub newline : List ℕ
newline = 10 ∷ []

-- a word and a number at the end of a line
unfoldable pub line_end : List ℕ → ℕ → List ℕ
line_end word n = labelled word n ++ newline
