-- An integer scalar's number fits 64 bits: it is at most the bits that it was made of. Assumes
-- nothing.
use Rattle.std.specs.Prelude.{if◌then◌else◌, Option, Some, None}
use Prim.Native.Nat.{ℕ, suc, ◌+◌, ◌-◌, ◌%◌, ◌^◌, ◌≤◌}
use mathlib.Core.Bool.{Bool, true, false, not}
use native.Mathlib.Omega.{arith}
use lib.Dec.{eqb, ltb}
use lib.IntN.{pos, negsuc}
use Rattle.kinds.specs.Shape.{greatest}
use Rattle.scalars.specs.Scalars.{signed_of, scalar_of, not_below, natural_of}
use Rattle.scalars.specs.declared.Scalar.TheVariants.{U8, I8, U16, I16, U32, I32, F32, Bool as Truth, U64, I64, F64}

-- a number that fits 64 bits, where there is one
abbrev pub Small : Option ℕ → Type 0
Small (Some n) = n ≤ greatest
Small None = Unit {0}

-- what is not below 0 of a number of w bits is at most that number
signed_small : (half n : ℕ) → n ≤ greatest → Small (not_below (signed_of half n))
signed_small half n h = by (ltb n half)
  where
    by : (b : Bool) → Small (not_below (if b then pos n else negsuc (half + half - suc n)))
    by true = h
    by false = tt

natural_cases : (n : ℕ) (b0 b1 b2 b3 b4 b5 b6 b7 b10 b11 : Bool) → Small (natural_of (
    if b0 then U8 (n % 2 ^ 8)
    else if b1 then I8 (signed_of (2 ^ 7) (n % 2 ^ 8))
    else if b2 then U16 (n % 2 ^ 16)
    else if b3 then I16 (signed_of (2 ^ 15) (n % 2 ^ 16))
    else if b4 then U32 (n % 2 ^ 32)
    else if b5 then I32 (signed_of (2 ^ 31) (n % 2 ^ 32))
    else if b6 then F32 (n % 2 ^ 32)
    else if b7 then Truth (not (eqb (n % 2 ^ 8) 0))
    else if b10 then U64 (n % 2 ^ 64)
    else if b11 then I64 (signed_of (2 ^ 63) (n % 2 ^ 64))
    else F64 (n % 2 ^ 64)))
natural_cases n true b1 b2 b3 b4 b5 b6 b7 b10 b11 = omega arith
natural_cases n false true b2 b3 b4 b5 b6 b7 b10 b11 = signed_small (2 ^ 7) (n % 2 ^ 8) (omega arith)
natural_cases n false false true b3 b4 b5 b6 b7 b10 b11 = omega arith
natural_cases n false false false true b4 b5 b6 b7 b10 b11 = signed_small (2 ^ 15) (n % 2 ^ 16) (omega arith)
natural_cases n false false false false true b5 b6 b7 b10 b11 = omega arith
natural_cases n false false false false false true b6 b7 b10 b11 = signed_small (2 ^ 31) (n % 2 ^ 32) (omega arith)
natural_cases n false false false false false false true b7 b10 b11 = tt
natural_cases n false false false false false false false true b10 b11 = tt
natural_cases n false false false false false false false false true b11 = omega arith
natural_cases n false false false false false false false false false true = signed_small (2 ^ 63) (n % 2 ^ 64) (omega arith)
natural_cases n false false false false false false false false false false = tt

-- whatever the type and the bits
pub natural_small : (t n : ℕ) → Small (natural_of (scalar_of t n))
natural_small t n = natural_cases n (eqb t 0) (eqb t 1) (eqb t 2) (eqb t 3) (eqb t 4) (eqb t 5) (eqb t 6) (eqb t 7) (eqb t 10) (eqb t 11)
