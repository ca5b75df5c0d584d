-- Bits that tell multiples: of a power of two those below it, of any other number all of them.
-- Assumes nothing.
use Prim.Native.Nat.{ℕ, zero, suc, ◌-◌, ◌/◌, ◌%◌, ◌^◌, ◌<◌}
use mathlib.Core.Path.{◌≡◌, refl, sym, ap, subst, ◌∙◌}
use native.Mathlib.Omega.{arith}
use native.Mathlib.Nat.{pow-suc, zero-mod}
use lib.Arith.{bin_ind}
use lib.Bits.{bit_and, and_step, and_self, and_mask}
use Rattle.kinds.specs.Shape.{greatest}
use Rattle.header.specs.Steps.{Tells}

-- a number above 0 that shares no bit with the number before it is a power of two
abbrev IsPower : ℕ → Type 0
IsPower a = (k : ℕ) × (a ≡ 2 ^ k)

power_cases : (a r : ℕ) → a % 2 ≡ r → r < 2 → 0 < a → bit_and a (a - 1) ≡ 0 → (0 < a / 2 → bit_and (a / 2) (a / 2 - 1) ≡ 0 → IsPower (a / 2)) → IsPower a
power_cases a zero e below some none half =
    let less : (a - 1) / 2 ≡ a / 2 - 1 = omega arith in
    let step = and_step a (a - 1) in
    let clear : bit_and (a / 2) ((a - 1) / 2) ≡ 0 = omega (arith, none, step) in
    let p = half (omega arith) (subst (λ x. bit_and (a / 2) x ≡ 0) less clear) in
    (suc p.0, omega (arith, p.1, pow-suc 2 p.0))
power_cases a (suc zero) e below some none half =
    let less : (a - 1) / 2 ≡ a / 2 = omega arith in
    let step = and_step a (a - 1) in
    let clear : bit_and (a / 2) ((a - 1) / 2) ≡ 0 = omega (arith, none, step) in
    let low : a / 2 ≡ 0 = sym (and_self (a / 2)) ∙ subst (λ x. bit_and (a / 2) x ≡ 0) less clear in
    (0, omega arith)
power_cases a (suc (suc r)) e below some none half = absurd (omega arith)

pub power : (a : ℕ) → 0 < a → bit_and a (a - 1) ≡ 0 → IsPower a
power a = bin_ind (λ (n : ℕ). 0 < n → bit_and n (n - 1) ≡ 0 → IsPower n) (λ some none. absurd (omega arith)) (λ n half some none. power_cases n (n % 2) refl (omega arith) some none half) a

pub tells_below : (a : ℕ) → 0 < a → bit_and a (a - 1) ≡ 0 → Tells (a - 1) a
tells_below a some none =
    let p = power a some none in
    record { multiple = λ n fits clear. rw p.1 (sym (and_mask n p.0) ∙ ap (λ x. bit_and n (x - 1)) (sym p.1) ∙ clear) }

pub tells_all : (a : ℕ) → Tells greatest a
tells_all a = record {
  multiple = λ n fits clear.
      let whole : n % 2 ^ 64 ≡ 0 = sym (and_mask n 64) ∙ clear in
      let none : n ≡ 0 = omega arith in
      rw none (zero-mod a);
}
