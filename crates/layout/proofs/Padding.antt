-- The least multiple not below a number: how it is worked out, and what makes it the least. Assumes
-- nothing.
use Prim.Native.Nat.{ℕ, suc, ◌+◌, ◌-◌, ◌*◌, ◌/◌, ◌%◌, ◌≤◌, ◌<◌}
use mathlib.Core.Path.{◌≡◌, ap, ◌∙◌}
use native.Mathlib.Omega.{arith}
use native.Mathlib.Numerals.{add-one}
use native.Mathlib.Nat.{div-eq_of_lt-le, suc-mul, mod-lt, div-add-mod', lt-div-mul-add, div-mul-le_self, le-div_iff_mul-le, mul-mod_left, mul-le-mul_right}
use borrow.Author.Tests.{ne_eqb}
use Rattle.layout.specs.Padding.{padded}

-- above 0 it is a multiple of the quotient
padded_quotient : (a n : ℕ) → 0 < a → padded a n ≡ (n + (a - 1)) / a * a
padded_quotient a n h = rw (ne_eqb a 0 (λ e. omega arith))

module _ (a n : ℕ) (pos : 0 < a) where
  -- by the quotient q
  by_quotient : (q : ℕ) → q * a ≤ n + (a - 1) → n + (a - 1) < q * a + a → padded a n ≡ q * a
  by_quotient q low high =
      padded_quotient a n pos ∙ ap (λ x. x * a) (div-eq_of_lt-le {k = q} a {m = n + (a - 1)} low (rw (add-one q, suc-mul q a) high))

  -- a multiple is its own
  pub padded-whole : n % a ≡ 0 → padded a n ≡ n
  padded-whole e =
      let d : n / a * a + n % a ≡ n = div-add-mod' n a in
      by_quotient (n / a) (omega arith) (omega arith) ∙ omega arith

  -- any other number is short of one by a minus what is past the last
  pub padded_up : (n % a ≡ 0 → ⊥) → padded a n ≡ n + (a - n % a)
  padded_up e =
      let d : n / a * a + n % a ≡ n = div-add-mod' n a in
      let s : suc (n / a) * a ≡ n / a * a + a = suc-mul (n / a) a in
      let l : n % a < a = mod-lt n pos in
      by_quotient (suc (n / a)) (omega arith) (omega arith) ∙ omega arith

module _ (a : ℕ) (pos : 0 < a) where
  -- it is not below the number, and less than an alignment above it
  pub padded-above : (n : ℕ) → n ≤ padded a n
  padded-above n =
      let d : n + (a - 1) < (n + (a - 1)) / a * a + a = lt-div-mul-add pos in
      let e = padded_quotient a n pos in
      omega arith

  pub padded_near : (n : ℕ) → padded a n < n + a
  padded_near n =
      let d : (n + (a - 1)) / a * a ≤ n + (a - 1) = div-mul-le_self (n + (a - 1)) a in
      let e = padded_quotient a n pos in
      omega arith

  -- it is a multiple
  pub padded-multiple : (n : ℕ) → padded a n % a ≡ 0
  padded-multiple n = rw (padded_quotient a n pos) (mul-mod_left ((n + (a - 1)) / a) a)

  -- of the multiples that are not below the number it is the least
  pub padded-least : (n m : ℕ) → n ≤ m → m % a ≡ 0 → padded a n ≤ m
  padded-least n m h e =
      let low : (n + (a - 1)) / a * a ≤ n + (a - 1) = div-mul-le_self (n + (a - 1)) a in
      let quotients : (n + (a - 1)) / a ≤ (m + (a - 1)) / a = (le-div_iff_mul-le pos).1 (omega arith) in
      let multiples : (n + (a - 1)) / a * a ≤ (m + (a - 1)) / a * a = mul-le-mul_right a quotients in
      let p = padded_quotient a n pos in
      let q = padded_quotient a m pos in
      let w = padded-whole a m pos e in
      omega arith

  -- padding once is enough
  pub padded-again : (n : ℕ) → padded a (padded a n) ≡ padded a n
  padded-again n = padded-whole a (padded a n) pos (padded-multiple n)

-- what `pad` rests on
pub ruleset paddings = (padded-whole, padded_up)
