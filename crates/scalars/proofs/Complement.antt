-- Numbers below 0: the difference that turns a number over, and two's complement at any width.
-- Assumes nothing.
use Rattle.std.specs.Prelude.{if◌then◌else◌}
use Prim.Native.Nat.{ℕ, zero, suc, ◌+◌, ◌-◌, ◌%◌, ◌^◌, ◌≤◌, ◌<◌}
use mathlib.Core.Path.{◌≡◌, refl, ap, subst, ◌∙◌}
use mathlib.Core.Bool.{Bool, true, false}
use native.Mathlib.Omega.{arith}
use lib.Dec.{ltb}
use lib.IntN.{ℤ, pos, negsuc, ◌-ℤ◌}
use lib.Signed.{lt_z, mag}
use mir.Syntax.{Width, w64}
use mir.Val.{SFits, bits, hbits, of_z, to_z, sel}
use mir.ValLaws.{pow-bits, Fits-wrap, to_z-Fits, to_z-of_z, of_z-to_z}
use borrow.Author.Tests.{ltb-true, le-ltb}
use Rattle.scalars.specs.Scalars.{signed_of}

-- -1 - z
pub over_neg : (n : ℕ) → negsuc 0 -ℤ negsuc n ≡ pos n
over_neg n = rw (le-ltb (suc n) 1 (omega arith)) (ap pos (omega arith))

pub over_pos : (n : ℕ) → negsuc 0 -ℤ pos n ≡ negsuc n
over_pos zero = refl
over_pos (suc n) = ap negsuc (omega arith)

-- a number below 0, or not, and its bound
abbrev pub Sign : Width → ℤ → Bool → Type 0
Sign w z true = (n : ℕ) × (z ≡ negsuc n) × (n < 2 ^ hbits w)
Sign w z false = (n : ℕ) × (z ≡ pos n) × (n < 2 ^ hbits w)

by_sign : (w : Width) (z : ℤ) → SFits w z → (b : Bool) → lt_z z (pos 0) ≡ b → Sign w z b
by_sign w (pos n) f true t = absurd (omega (arith, ltb-true n 0 t))
by_sign w (pos n) f false t = (n, refl, f.sfits)
by_sign w (negsuc n) f true t = (n, refl, f.sfits)
by_sign w (negsuc n) f false t = let z : ◌≡◌ {A = ℕ} 0 1 = cc in absurd (omega arith)

-- what the code's test for a sign tells: it looks at the bits, read again
pub sign : (w : Width) (z : ℤ) → SFits w z → (b : Bool) → lt_z (to_z w (of_z w z)) (pos 0) ≡ b → Sign w z b
sign w z f b t = by_sign w z f b (subst (λ x. lt_z x (pos 0) ≡ b) (to_z-of_z w z f) t)

-- a number that was written in two's complement and read again
pub stored : (w : Width) (z : ℤ) → mag z < 2 ^ hbits w → to_z w (of_z w z) ≡ z
stored w z h = to_z-of_z w z (record { sfits = h })

-- a number of a narrow width, widened to 64 bits, is the same
module _ (w : Width) (small : 2 ^ hbits w ≤ 2 ^ 63) (z : ℤ) (f : SFits w z) where
  wider : SFits w64 z
  wider = record { sfits = omega (arith, f.sfits) }

  pub widens : SFits w64 (to_z w (of_z w z))
  widens = rw (to_z-of_z w z f) wider

  pub widened : to_z w64 (of_z w64 (to_z w (of_z w z))) ≡ z
  widened = rw (to_z-of_z w z f, to_z-of_z w64 z wider)

-- the number that n stands for is the one that the logic reads
pub signed_is : (w : Width) (n : ℕ) → signed_of (2 ^ hbits w) n ≡ to_z w n
signed_is w n = by (ltb n (2 ^ hbits w))
  where
    by : (b : Bool) → (if b then pos n else negsuc (2 ^ hbits w + 2 ^ hbits w - suc n)) ≡ sel b (pos n) (negsuc (2 ^ bits w - suc n))
    by true = refl
    by false = ap negsuc (omega (arith, pow-bits w))

-- its bits are n again
pub signed_bits : (w : Width) (n : ℕ) → of_z w (signed_of (2 ^ hbits w) (n % 2 ^ bits w)) ≡ n % 2 ^ bits w
signed_bits w n = ap (of_z w) (signed_is w (n % 2 ^ bits w)) ∙ of_z-to_z w (n % 2 ^ bits w) (Fits-wrap w n)

-- z is a number of 64 bits that the low bits of n stand for at a narrow width: narrowed to that
-- width, it is the same
module _ (w : Width) (small : 2 ^ hbits w ≤ 2 ^ 63) (n : ℕ) {z : ℤ} (e : z ≡ signed_of (2 ^ hbits w) (n % 2 ^ bits w)) where
  fits : SFits w z
  fits = rw (e, signed_is w (n % 2 ^ bits w)) (to_z-Fits w (n % 2 ^ bits w) (Fits-wrap w n))

  pub narrows : SFits w (to_z w64 (of_z w64 z))
  narrows = rw (to_z-of_z w64 z (wider w small z fits)) fits

  pub narrowed : to_z w (of_z w (to_z w64 (of_z w64 z))) ≡ signed_of (2 ^ hbits w) (n % 2 ^ bits w)
  narrowed = rw (to_z-of_z w64 z (wider w small z fits), to_z-of_z w z fits) e
