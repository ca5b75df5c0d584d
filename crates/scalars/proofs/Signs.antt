-- A signed number that is not below 0 casts to the number that it is. Assumes nothing.
use Prim.Native.Nat.{◌^◌, ◌≤◌, ◌<◌}
use mathlib.Core.Path.{◌≡◌}
use mathlib.Core.Bool.{false}
use native.Mathlib.Omega.{arith}
use lib.Dec.{T}
use lib.IntN.{ℤ, pos, nat_abs}
use lib.Signed.{lt_z, non_neg, mag}
use mir.Syntax.{Width, w64}
use mir.Val.{Fits, hbits, of_z, to_z}
use Rattle.scalars.proofs.Complement.{Sign, sign, stored}

-- what the code's test for a sign tells: it looks at the bits, read again
pub casts : (w : Width) (z : ℤ) (fits : mag z < 2 ^ hbits w) → lt_z (to_z w (of_z w z)) (pos 0) ≡ false → 2 ^ hbits w ≤ 2 ^ 63
    → T (non_neg (to_z w (of_z w z))) × Fits w64 (nat_abs (to_z w (of_z w z)))
casts w z fits t small =
    let plus : Sign w z false = sign w z (record { sfits = fits }) false t in
    rw (stored w z fits, plus.1) (tt, record { fits = omega (arith, plus.2) })
