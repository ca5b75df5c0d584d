-- How the check goes from one row to the next, and when two tests answer alike. Assumes nothing.
use Prim.Native.Nat.{ℕ, suc, ◌≤◌, ◌<◌}
use mathlib.Core.Path.{◌≡◌, sym, ◌∙◌}
use mathlib.Core.Bool.{true, false}
use mathlib.Core.List.{List, []}
use lib.Dec.{leb}
use lib.ListN.{length, drop, get_or, drop_of_length-le}
use lib.Seq.{drop-cons}
use borrow.Author.Tests.{le-leb, lt-leb}
use Rattle.reading.proofs.Cases.{split}
use Rattle.reading.specs.Replies.{gives, refuses}
use Rattle.ranges.specs.Ranges.{end_of, check_from}

-- two tests answer alike where each outcome of the one gives that of the other
pub alike : (a b c d : ℕ) → (a ≤ b → c ≤ d) → (b < a → d < c) → leb a b ≡ leb c d
alike a b c d then-so otherwise =
    split b a (λ h. lt-leb a b h ∙ sym (lt-leb c d (otherwise h))) (λ h. le-leb a b h ∙ sym (le-leb c d (then-so h)))

module _ (start file : ℕ) (rows : List (List ℕ)) (i : ℕ) where
  -- past the last row nothing is refused
  pub at-end : length rows ≤ i → check_from start file i (drop i rows) ≡ gives tt
  at-end h = rw (drop_of_length-le rows h)

  -- at a row that ends inside, what is left is the check of the rows after it
  pub goes_on : i < length rows → leb (end_of start (get_or rows i [])) file ≡ true → check_from start file i (drop i rows) ≡ check_from start file (suc i) (drop (suc i) rows)
  goes_on h e = rw (drop-cons rows i [] h, e)

  -- at a row that does not, its number is the answer
  pub stops : i < length rows → leb (end_of start (get_or rows i [])) file ≡ false → check_from start file i (drop i rows) ≡ refuses 20 i
  stops h e = rw (drop-cons rows i [] h, e)
