-- Products of 64 bits: when one fits, what is answered of it, and the products of a shape's lengths
-- one after the other. Assumes nothing.
use Rattle.std.specs.Prelude.{if◌then◌else◌, Option, Some, None}
use Prim.Native.Nat.{ℕ, ◌*◌, ◌/◌, ◌≤◌, ◌<◌, ◌^◌}
use mathlib.Core.Path.{◌≡◌, refl, ◌∙◌}
use mathlib.Core.Bool.{Bool, true, false}
use mathlib.Core.List.{List, [], ◌∷◌}
use native.Mathlib.Omega.{arith}
use native.Mathlib.Nat.{one-mul, mul-le-mul_left, le-div_iff_mul-le, div-lt_iff_lt-mul}
use lib.Dec.{leb}
use lib.ListN.{get_or}
use mir.Syntax.{w64}
use mir.Val.{Val}
use borrow.Author.Tests.{le-leb}
use denote.Laws.{Is}
use denote.Plain.{UInt}
use denote.Shadow.{shadow}
use denote.Array.{Array, each}
use Rattle.kinds.specs.Shape.{greatest, first_length, product_from, products_fit_from, bounded_product}

-- a product is too great, or fits, as the quotient says
pub too_great : (a b : ℕ) → 0 < b → greatest / b < a → greatest < a * b
too_great a b pos h = (div-lt_iff_lt-mul pos).0 h

pub small-enough : (a b : ℕ) → 0 < b → a ≤ greatest / b → a * b ≤ greatest
small-enough a b pos h = (le-div_iff_mul-le pos).0 h

-- it fits where a factor does and the other is 0 or 1
pub small_factor : (a b : ℕ) → a ≤ greatest → b < 2 → a * b ≤ greatest
small_factor a b fits h = let l : b ≤ 1 = omega arith in omega (arith, mul-le-mul_left a l)

-- few numbers fit in small blocks
pub few_fit : (n b : ℕ) → n < 2 ^ 55 → b < 512 → n * b ≤ greatest
few_fit n b few small =
    let h : b ≤ 511 = omega arith in
    omega (arith, mul-le-mul_left n h)

-- what was answered tells how the test went
pub answered : (b : Bool) (n : ℕ) {m : ℕ} → Some m ≡ (if b then Some n else None) → (b ≡ true) × (n ≡ m)
answered true n e = (refl, cc)
answered false n e = let z : ◌≡◌ {A = ℕ} 0 1 = cc in absurd (omega arith)

pub refused : (b : Bool) (n : ℕ) → None ≡ (if b then Some n else None) → b ≡ false
refused true n e = let z : ◌≡◌ {A = ℕ} 0 1 = cc in absurd (omega arith)
refused false n e = refl

-- what is answered of a number
abbrev pub fitted : ℕ → Option ℕ
fitted n = if leb n greatest then Some n else None

-- what is answered of x times each length
abbrev whole_from : ℕ → List ℕ → Option ℕ
whole_from x l = if products_fit_from x l then Some (product_from x l) else None

module _ (x n : ℕ) (l : List ℕ) where
  goes_on : {y : ℕ} → Some y ≡ fitted (x * n) → whole_from y l ≡ whole_from x (n ∷ l)
  goes_on e = let h = answered (leb (x * n) greatest) (x * n) e in rw (h.0, h.1)

  stops : None ≡ fitted (x * n) → None ≡ whole_from x (n ∷ l)
  stops e = rw (refused (leb (x * n) greatest) (x * n) e)

ends_by : (b : Bool) (n : ℕ) → (if b then Some n else None) ≡ (if (if b then true else false) then Some n else None)
ends_by true n = refl
ends_by false n = refl

ends : (x n : ℕ) → fitted (x * n) ≡ whole_from x (n ∷ [])
ends x n = ends_by (leb (x * n) greatest) (x * n)

-- four lengths of which the first fits are multiplied from the first on
pub record Lengths (s : List ℕ) : Type 0 where
  pub first : get_or s 0 0 ≡ first_length s
  pub begins : whole_from (get_or s 0 0) (get_or s 1 0 ∷ get_or s 2 0 ∷ get_or s 3 0 ∷ []) ≡ bounded_product s

first_fits : (x : ℕ) (xs : List ℕ) (us : List Val) → shadow (each ℕ (UInt w64).own_val (x ∷ xs) us) → x ≤ greatest
first_fits x xs [] s = absurd s
first_fits x xs (u ∷ us) s = let h : x < 2 ^ 64 = s.0.1 in omega arith

-- an array of four numbers of 64 bits holds such lengths
pub lengths : (s : List ℕ) (vs : List Val) → Is (Array (UInt w64) 4) s vs → Lengths s
lengths (a ∷ b ∷ c ∷ d ∷ []) vs p =
    let h = first_fits a (b ∷ c ∷ d ∷ []) p.0 p.1.1 in
    record { first = refl; begins = goes_on 1 a (b ∷ c ∷ d ∷ []) (rw (one-mul, le-leb a greatest h)) }
lengths [] vs p = absurd (omega (arith, p.1.0.1))
lengths (a ∷ []) vs p = absurd (omega (arith, p.1.0.1))
lengths (a ∷ b ∷ []) vs p = absurd (omega (arith, p.1.0.1))
lengths (a ∷ b ∷ c ∷ []) vs p = absurd (omega (arith, p.1.0.1))
lengths (a ∷ b ∷ c ∷ d ∷ e ∷ l) vs p = absurd (omega (arith, p.1.0.1))

-- what is answered where a product does not fit, and where all do
module _ {s : List ℕ} (four : Lengths s) where
  pub no_plane : None ≡ fitted (get_or s 0 0 * get_or s 1 0) → None ≡ bounded_product s
  no_plane e = stops (get_or s 0 0) (get_or s 1 0) (get_or s 2 0 ∷ get_or s 3 0 ∷ []) e ∙ four.begins

  module _ {plane : ℕ} (e : Some plane ≡ fitted (get_or s 0 0 * get_or s 1 0)) where
    from_plane : whole_from plane (get_or s 2 0 ∷ get_or s 3 0 ∷ []) ≡ bounded_product s
    from_plane = goes_on (get_or s 0 0) (get_or s 1 0) (get_or s 2 0 ∷ get_or s 3 0 ∷ []) e ∙ four.begins

    pub no_solid : None ≡ fitted (plane * get_or s 2 0) → None ≡ bounded_product s
    no_solid f = stops plane (get_or s 2 0) (get_or s 3 0 ∷ []) f ∙ from_plane

    pub whole : {solid : ℕ} → Some solid ≡ fitted (plane * get_or s 2 0) → fitted (solid * get_or s 3 0) ≡ bounded_product s
    whole {solid} f = ends solid (get_or s 3 0) ∙ goes_on plane (get_or s 2 0) (get_or s 3 0 ∷ []) f ∙ from_plane
