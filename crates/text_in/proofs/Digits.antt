-- A number from one digit to the next. Assumes nothing.
use Prim.Native.Nat.{ℕ, ◌+◌, ◌^◌, ◌≤◌, ◌<◌}
use mathlib.Core.Path.{◌≡◌, refl}
use mathlib.Core.List.{List, [], ◌∷◌}
use native.Mathlib.Omega.{arith}
use native.Mathlib.Numerals.{add-one}
use lib.ListN.{length, drop, get_or, drop_of_length-le}
use lib.Seq.{drop-cons}
use borrow.Author.Tests.{le-leb, lt-leb, lt-ltb, le-ltb}
use Rattle.text_in.specs.Decimal.{with_digit, number_from, number_of}
use Rattle.std.specs.Prelude.{Some, None}

-- no digit, and some bytes
pub no_text : (text : List ℕ) → length text ≡ 0 → number_of text ≡ None
unfolding number_of
no_text [] h = refl
no_text (b ∷ bs) h = absurd (omega arith)

pub some-text : (text : List ℕ) → 0 < length text → number_of text ≡ number_from 0 text
unfolding number_of
some-text [] h = absurd (omega arith)
some-text (b ∷ bs) h = refl

module _ (n : ℕ) (text : List ℕ) (i : ℕ) where
  pub digits-end : length text ≤ i → number_from n (drop i text) ≡ Some n
  unfolding number_from
  digits-end h = rw (drop_of_length-le text {i = i} h)

  module _ (h : i < length text) where
    -- a byte below the digits, and one above them
    pub digit_below : get_or text i 0 < 48 → number_from n (drop i text) ≡ None
    unfolding number_from
    digit_below e = rw (drop-cons text i 0 h, lt-leb 48 (get_or text i 0) e)

    pub digit_above : 48 ≤ get_or text i 0 → 57 < get_or text i 0 → number_from n (drop i text) ≡ None
    unfolding number_from
    digit_above e f = rw (drop-cons text i 0 h, le-leb 48 (get_or text i 0) e, lt-leb (get_or text i 0) 57 f)

    -- a digit: the number is too large, or it goes on
    module _ (e : 48 ≤ get_or text i 0) (f : get_or text i 0 ≤ 57) where
      pub digit_over : 2 ^ 64 ≤ with_digit n (get_or text i 0) → number_from n (drop i text) ≡ None
      unfolding number_from
      digit_over g = rw (drop-cons text i 0 h, le-leb 48 (get_or text i 0) e, le-leb (get_or text i 0) 57 f, le-ltb (with_digit n (get_or text i 0)) (2 ^ 64) g)

      pub digit_on : with_digit n (get_or text i 0) < 2 ^ 64 → number_from n (drop i text) ≡ number_from (with_digit n (get_or text i 0)) (drop (i + 1) text)
      unfolding number_from
      digit_on g = rw (drop-cons text i 0 h, le-leb 48 (get_or text i 0) e, le-leb (get_or text i 0) 57 f, lt-ltb (with_digit n (get_or text i 0)) (2 ^ 64) g, add-one)
