-- Turns of the search for the next key, and of the rows in the order of their keys. Assumes
-- nothing.
use Rattle.std.specs.Prelude.{if◌then◌else◌, Option, Some, None}
use Prim.Native.Nat.{ℕ, zero, suc, ◌+◌, ◌-◌, ◌≤◌, ◌<◌}
use mathlib.Core.Path.{◌≡◌, refl, subst}
use mathlib.Core.Bool.{Bool, true, false}
use mathlib.Core.List.{List, [], ◌∷◌}
use native.Mathlib.Omega.{arith}
use native.Mathlib.Numerals.{add-one, sub-one}
use lib.ListN.{length, drop, get_or, drop_of_length-le}
use lib.Seq.{drop-cons}
use Rattle.fields.specs.Order.{before}
use Rattle.key_order.specs.Order.{name_in, key_at, to_come, better, improved, best_from, next_key, ordered_after}

module _ (s : List ℕ) (rows : List (List ℕ)) (last : Option ℕ) where
  -- a row more is looked at
  pub best_turn : (z : Option ℕ) (i : ℕ) → i < length rows
      → best_from s rows last z i (drop i rows) ≡ best_from s rows last (improved s rows last z i (key_at s rows i)) (i + 1) (drop (i + 1) rows)
  best_turn z i h = rw (drop-cons rows i [] h, add-one i)

  -- all were looked at
  pub best_end : (z : Option ℕ) (i : ℕ) → length rows ≤ i → best_from s rows last z i (drop i rows) ≡ z
  best_end z i h = rw (drop_of_length-le rows {i = i} h)

  -- there is such a row before n
  abbrev Below : ℕ → Option ℕ → Type 0
  Below n None = Unit {0}
  Below n (Some i) = i < n

  below_more : (n m : ℕ) (z : Option ℕ) → n ≤ m → Below n z → Below m z
  below_more n m None h b = tt
  below_more n m (Some i) h b = omega arith

  chosen : (n : ℕ) (t : Bool) (y z : Option ℕ) → Below n y → Below n z → Below n (if t then y else z)
  chosen n true y z h g = h
  chosen n false y z h g = g

  below-better : (z : Option ℕ) (i : ℕ) (key : List ℕ) → Below i z → Below (suc i) (better s rows z i key)
  below-better None i key h = omega arith
  below-better (Some j) i key h = chosen (suc i) (before (key_at s rows j) key) (Some j) (Some i) (omega arith) (omega arith)

  below_best : (z : Option ℕ) (i : ℕ) (more : List (List ℕ)) → Below i z → Below (i + length more) (best_from s rows last z i more)
  below_best z i [] h = below_more i (i + 0) z (omega arith) h
  below_best z i (row ∷ more) h =
      let key = name_in s row in
      let y = improved s rows last z i key in
      let b = chosen (suc i) (to_come s rows last key) (better s rows z i key) z (below-better z i key h) (below_more i (suc i) z (omega arith) h) in
      below_more (suc i + length more) (i + suc (length more)) (best_from s rows last y (suc i) more) (omega arith) (below_best y (suc i) more b)

  -- the next row is one of the rows
  pub next-inside : {i : ℕ} → next_key s rows last ≡ Some i → i < length rows
  next-inside {i} e = let b = below_best None 0 rows tt in let d = subst (Below (0 + length rows)) e b in omega arith

  -- the rows that are left are the next one and those after it, or none
  pub ordered-turn : {i : ℕ} (left : ℕ) → 0 < left → next_key s rows last ≡ Some i
      → ordered_after s rows left last ≡ get_or rows i [] ∷ ordered_after s rows (left - 1) (Some i)
  unfolding ordered_after
  ordered-turn zero h e = absurd (omega arith)
  ordered-turn (suc left) h e = rw (e, sub-one (suc left)) refl

  pub ordered-ends : (left : ℕ) → next_key s rows last ≡ None → ordered_after s rows left last ≡ []
  unfolding ordered_after
  ordered-ends zero e = refl
  ordered-ends (suc left) e = rw e refl

  pub ordered-none : (left : ℕ) → left ≡ 0 → ordered_after s rows left last ≡ []
  unfolding ordered_after
  ordered-none left e = rw e refl
