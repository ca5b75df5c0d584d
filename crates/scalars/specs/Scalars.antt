-- Scalars: single values of eleven types. What bits stand for, which bits stand for a scalar, and
-- its word in a row.
use Rattle.std.specs.Prelude.{ℕ, suc, ◌%◌, ◌+◌, ◌^◌, ◌≤◌, ◌<◌, ◌-◌, ◌≡◌, not, List, [], ◌∷◌, eqb, ltb, ℤ, pos, negsuc, get_or, if◌then◌else◌, Option, Some, None}
use Rattle.std.specs.Int.{w8, w16, w32, w64}
use Rattle.std.proofs.Common.{of_z}
use Rattle.fields.specs.Value.{width_of}
use Rattle.fields.specs.Bytes.{Within}
use Rattle.scalars.specs.declared.Scalar.{Scalar}
use Rattle.scalars.specs.declared.Scalar.TheVariants.{U8, I8, U16, I16, U32, I32, F32, Bool as Truth, U64, I64, F64}
use Rattle.fields.specs.declared.Width.{Width}

-- the bytes of a scalar of each of the thirteen value types, and 0 of a string and an array, which
-- are none
abbrev pub scalar_widths : List ℕ
scalar_widths = 1 ∷ 1 ∷ 2 ∷ 2 ∷ 4 ∷ 4 ∷ 4 ∷ 1 ∷ 0 ∷ 0 ∷ 8 ∷ 8 ∷ 8 ∷ []

-- the bytes of a scalar of the type t, and 0 where no scalar has that type
unfoldable pub scalar_width : ℕ → ℕ
scalar_width t = get_or scalar_widths t 0

-- the number that n stands for in two's complement, where half is the least n that stands for one
-- below 0
abbrev pub signed_of : ℕ → ℕ → ℤ
signed_of half n = if ltb n half then pos n else negsuc (half + half - suc n)

-- the scalar of a type that a number stands for by the low bits of its width: a signed one in two's
-- complement, a float as its bits, a bool true unless it is 0
abbrev pub scalar_of : ℕ → ℕ → Scalar
scalar_of t n =
    if eqb t 0 then U8 (n % 2 ^ 8)
    else if eqb t 1 then I8 (signed_of (2 ^ 7) (n % 2 ^ 8))
    else if eqb t 2 then U16 (n % 2 ^ 16)
    else if eqb t 3 then I16 (signed_of (2 ^ 15) (n % 2 ^ 16))
    else if eqb t 4 then U32 (n % 2 ^ 32)
    else if eqb t 5 then I32 (signed_of (2 ^ 31) (n % 2 ^ 32))
    else if eqb t 6 then F32 (n % 2 ^ 32)
    else if eqb t 7 then Truth (not (eqb (n % 2 ^ 8) 0))
    else if eqb t 10 then U64 (n % 2 ^ 64)
    else if eqb t 11 then I64 (signed_of (2 ^ 63) (n % 2 ^ 64))
    else F64 (n % 2 ^ 64)

-- a scalar's type
abbrev pub scalar_type : Scalar → ℕ
scalar_type (U8 x) = 0
scalar_type (I8 x) = 1
scalar_type (U16 x) = 2
scalar_type (I16 x) = 3
scalar_type (U32 x) = 4
scalar_type (I32 x) = 5
scalar_type (F32 x) = 6
scalar_type (Truth x) = 7
scalar_type (U64 x) = 10
scalar_type (I64 x) = 11
scalar_type (F64 x) = 12

-- a scalar's bits, in its own width
abbrev pub scalar_bits : Scalar → ℕ
scalar_bits (U8 x) = x
scalar_bits (I8 x) = of_z w8 x
scalar_bits (U16 x) = x
scalar_bits (I16 x) = of_z w16 x
scalar_bits (U32 x) = x
scalar_bits (I32 x) = of_z w32 x
scalar_bits (F32 x) = x
scalar_bits (Truth x) = if x then 1 else 0
scalar_bits (U64 x) = x
scalar_bits (I64 x) = of_z w64 x
scalar_bits (F64 x) = x

-- bits that fit a scalar of the type t, and that a reader keeps as they are
pub record FitsScalar (t v : ℕ) : Type 0 where
  pub known : t ≤ 12
  pub wide : 0 < scalar_width t
  pub within : Within (scalar_width t) v
  pub typed : scalar_type (scalar_of t v) ≡ t
  pub normal : scalar_bits (scalar_of t v) ≡ v

-- a scalar in 64 bits: a signed one in two's complement, so that the word as a signed number is the
-- scalar
abbrev pub scalar_word : Scalar → ℕ
scalar_word (U8 x) = x
scalar_word (I8 x) = of_z w64 x
scalar_word (U16 x) = x
scalar_word (I16 x) = of_z w64 x
scalar_word (U32 x) = x
scalar_word (I32 x) = of_z w64 x
scalar_word (F32 x) = x
scalar_word (Truth x) = if x then 1 else 0
scalar_word (U64 x) = x
scalar_word (I64 x) = of_z w64 x
scalar_word (F64 x) = x

-- a scalar's type and its word
abbrev pub scalar_words : Scalar → List ℕ
scalar_words x = scalar_type x ∷ scalar_word x ∷ []

-- an integer that is not below 0
abbrev pub not_below : ℤ → Option ℕ
not_below (pos n) = Some n
not_below (negsuc n) = None

-- the number of an integer scalar that is not below 0: a float and a bool have none
abbrev pub natural_of : Scalar → Option ℕ
natural_of (U8 x) = Some x
natural_of (I8 x) = not_below x
natural_of (U16 x) = Some x
natural_of (I16 x) = not_below x
natural_of (U32 x) = Some x
natural_of (I32 x) = not_below x
natural_of (F32 x) = None
natural_of (Truth x) = None
natural_of (U64 x) = Some x
natural_of (I64 x) = not_below x
natural_of (F64 x) = None

-- what the code's answer says: the bytes of a type, and none of one that is no scalar's
abbrev pub as_width : Option Width → ℕ
as_width (Some w) = width_of w
as_width None = 0
