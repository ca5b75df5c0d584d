-- A number as bytes, at every width and in both orders; and what a writer leaves of its output.
use Rattle.std.specs.Prelude.{ℕ, ◌<◌, zero, suc, ◌/◌, ◌%◌, ◌^◌, ◌≡◌, List, [], ◌∷◌, ◌++◌, Bool, length, drop}
use Rattle.fields.specs.Value.{turn}

-- a number that a byte holds
abbrev pub Byte : ℕ → Type 0
Byte b = b < 256

-- the w lowest bytes of v, the least first
unfoldable pub little : ℕ → ℕ → List ℕ
little zero v = []
little (suc w) v = v % 256 ∷ little w (v / 256)

-- the same in the byte order of the file
unfoldable pub bytes_of : Bool → ℕ → ℕ → List ℕ
bytes_of big w v = turn big (little w v)

-- a writer left out where old was: l at the front, n bytes of it, and old's own after that
pub record Wrote (l old out : List ℕ) (n : ℕ) : Type 0 where
  pub count : n ≡ length l
  pub bytes : out ≡ l ++ drop (length l) old

-- What can be written: each number fits its field, and what a reader tests holds.

-- a number that w bytes hold
abbrev pub Within : ℕ → ℕ → Type 0
Within w v = v < 256 ^ w
