-- A scalar's bits: those of its own width say it again, and so does what a reader kept of them.
-- Assumes nothing.
use Rattle.std.specs.Prelude.{if◌then◌else◌}
use Prim.Native.Nat.{ℕ, suc, ◌%◌, ◌^◌, ◌≤◌, ◌<◌, zero}
use mathlib.Core.Path.{◌≡◌, refl, sym, ap, ◌∙◌, subst}
use mathlib.Core.Bool.{Bool, true, false, not}
use native.Mathlib.Omega.{arith}
use lib.Dec.{eqb}
use native.Mathlib.Nat.{mod-mod, mod-eq_of_lt}
use mir.Val.{bits, hbits, of_z}
use mir.Syntax.{Width, w8, w16, w32, w64}
use borrow.Author.Tests.{eqb-true, eqb-false}
use Rattle.scalars.specs.Scalars.{scalar_bits, scalar_width, signed_of, scalar_of, FitsScalar, scalar_type}
use Rattle.scalars.proofs.Complement.{signed_bits}
use Rattle.scalars.proofs.Types.{◌&◌, below, Below}
use Rattle.scalars.specs.declared.Scalar.TheVariants.{U8, I8, U16, I16, U32, I32, F32, Bool as Truth, U64, I64, F64}

-- the low bits of low bits, and of the two's complement of those
twice : (w : Width) (n : ℕ) → n % 2 ^ bits w % 2 ^ bits w ≡ n % 2 ^ bits w
twice w n = mod-mod n (2 ^ bits w)

signed_twice : (w : Width) (n : ℕ) → of_z w (signed_of (2 ^ hbits w) (n % 2 ^ bits w)) % 2 ^ bits w ≡ n % 2 ^ bits w
signed_twice w n = ap (λ m. m % 2 ^ bits w) (signed_bits w n) ∙ twice w n

-- a scalar that was read is the scalar of its bits
pub scalar-again : (t n : ℕ) → t ≤ 12 → 0 < scalar_width t → scalar_of t (scalar_bits (scalar_of t n)) ≡ scalar_of t n
unfolding scalar_width
scalar-again t n h =
    below (λ u. 0 < scalar_width u → scalar_of u (scalar_bits (scalar_of u n)) ≡ scalar_of u n) 13
    ((λ w. ap U8 (twice w8 n)) &
    (λ w. ap (λ m. I8 (signed_of (2 ^ 7) m)) (signed_twice w8 n)) &
    (λ w. ap U16 (twice w16 n)) &
    (λ w. ap (λ m. I16 (signed_of (2 ^ 15) m)) (signed_twice w16 n)) &
    (λ w. ap U32 (twice w32 n)) &
    (λ w. ap (λ m. I32 (signed_of (2 ^ 31) m)) (signed_twice w32 n)) &
    (λ w. ap F32 (twice w32 n)) &
    (λ w. truth (eqb (n % 2 ^ 8) 0)) &
    (λ w. absurd (omega arith)) &
    (λ w. absurd (omega arith)) &
    (λ w. ap U64 (twice w64 n)) &
    (λ w. ap (λ m. I64 (signed_of (2 ^ 63) m)) (signed_twice w64 n)) &
    (λ w. ap F64 (twice w64 n)) &
    tt) t (omega arith)
  where
    truth : (b : Bool) → Truth (not (eqb ((if not b then 1 else 0) % 2 ^ 8) 0)) ≡ Truth (not b)
    truth true = refl
    truth false = refl

-- a signed scalar's bits, at its width
signed_same : (w : Width) (v : ℕ) → v < 2 ^ bits w → of_z w (signed_of (2 ^ hbits w) (v % 2 ^ bits w)) ≡ v
signed_same w v h = signed_bits w v ∙ mod-eq_of_lt h

-- a bool's
truth-same : (v : ℕ) → v ≤ 1 → (if not (eqb (v % 2 ^ 8) 0) then 1 else 0) ≡ v
truth-same zero h = refl
truth-same (suc zero) h = refl
truth-same (suc (suc v)) h = absurd (omega arith)

-- what a reader makes of the bits v at the type t says them again
abbrev Same : ℕ → Type 0
Same t = (v : ℕ) → 0 < scalar_width t → v < 256 ^ scalar_width t → (t ≡ 7 → v ≤ 1) → (scalar_type (scalar_of t v) ≡ t) × (scalar_bits (scalar_of t v) ≡ v)

same : Below Same 13
unfolding scalar_width
same =
    (λ v w h b. (refl, omega arith)) &
    (λ v w h b. (refl, signed_same w8 v h)) &
    (λ v w h b. (refl, omega arith)) &
    (λ v w h b. (refl, signed_same w16 v h)) &
    (λ v w h b. (refl, omega arith)) &
    (λ v w h b. (refl, signed_same w32 v h)) &
    (λ v w h b. (refl, omega arith)) &
    (λ v w h b. (refl, truth-same v (b refl))) &
    (λ v w h b. absurd (omega arith)) &
    (λ v w h b. absurd (omega arith)) &
    (λ v w h b. (refl, omega arith)) &
    (λ v w h b. (refl, signed_same w64 v h)) &
    (λ v w h b. (refl, omega arith)) &
    tt

-- a scalar's bits are read as they are
pub scalar_fits : (t v : ℕ) → t ≤ 12 → 0 < scalar_width t → v < 256 ^ scalar_width t → (t ≡ 7 → v ≤ 1) → FitsScalar t v
scalar_fits t v k w h b =
    let p = below Same 13 same t (omega arith) v w h b in
    record { known = k; wide = w; within = h; typed = p.0; normal = p.1 }

-- a bool's bits are 0 or 1
truth-kept : (n : ℕ) → FitsScalar 7 (scalar_bits (scalar_of 7 n))
unfolding scalar_width
truth-kept n = by (eqb (n % 2 ^ 8) 0)
  where
    by : (b : Bool) → FitsScalar 7 (if not b then 1 else 0)
    by true = scalar_fits 7 0 (omega arith) (omega arith) (omega arith) (λ e. omega arith)
    by false = scalar_fits 7 1 (omega arith) (omega arith) (omega arith) (λ e. omega arith)

-- what a reader kept fits: of each type but a bool it is the bits themselves
pub scalar-kept : (t n : ℕ) → t ≤ 12 → 0 < scalar_width t → n < 256 ^ scalar_width t → FitsScalar t (scalar_bits (scalar_of t n))
scalar-kept t n k w h = by (eqb t 7) refl
  where
    by : (b : Bool) → eqb t 7 ≡ b → FitsScalar t (scalar_bits (scalar_of t n))
    by true e = subst (λ t. FitsScalar t (scalar_bits (scalar_of t n))) (sym (eqb-true t 7 e)) (truth-kept n)
    by false e =
        let f = scalar_fits t n k w h (λ p. absurd (eqb-false t 7 e p)) in
        rw f.normal f
