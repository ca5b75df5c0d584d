-- What a writer of text does to its output.
use Rattle.std.specs.Prelude.{ℕ, ◌≤◌, List, length, take}
use Rattle.fields.specs.Bytes.{Wrote}

-- a writer put a text at the front of its output, n bytes of it: all, or as many as there was room
-- for; the output after them is as it was
pub record Put (text old out : List ℕ) (n : ℕ) : Type 0 where
  pub inside : n ≤ length out
  pub wrote : Wrote (take (length old) text) old out n
