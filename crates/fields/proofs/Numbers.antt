-- A number at a place, at every width and in both orders: the field, and its bytes taken one at a
-- time, the greatest first. Assumes nothing.
use Rattle.std.specs.Prelude.{if◌then◌else◌}
use Prim.Native.Nat.{ℕ, zero, suc, ◌+◌, ◌-◌, ◌*◌, ◌/◌, ◌^◌, ◌≤◌, ◌<◌}
use mathlib.Core.Path.{◌≡◌, refl, sym, ap, ◌∙◌}
use mathlib.Core.List.{List, [], ◌∷◌, ◌++◌, reverse, reverse-append}
use mathlib.Core.Bool.{Bool, true, false}
use native.Mathlib.Omega.{arith}
use native.Mathlib.Numerals.{add-one}
use native.Mathlib.Nat.{mul-suc, mul-le-mul_right, add-suc, mul_assoc, pow-succ', mul-le-mul_left}
use lib.ListN.{length, take, drop, get_or, length-drop, length-reverse}
use lib.Seq.{drop-cons, drop-drop, take-add, take-take, length-take-le}
use lib.Dec.{leb}
use Rattle.reading.specs.Each.{times}
use Rattle.reading.specs.Reading.{done, accepted, refused, run, passed}
use Rattle.fields.specs.Value.{le_value, value, halves, number}
use Rattle.reading.proofs.Pieces.{small}
use Rattle.reading.proofs.RunLaws.{field-there, field-missing}
use Rattle.reading.proofs.Widths.{times_width}

-- a number that is wholly there, and one that is not
pub number-there : (w : ℕ) (big : Bool) (s : List ℕ) (at : ℕ) → at + w ≤ length s → run (number w big) s at ≡ accepted (value big (take w (drop at s))) (at + w)
unfolding run number
number-there w big s at h = rw (field-there w w (λ bs. done (value big bs)) s at h, take-take w w (drop at s) (omega arith))

pub number-missing : (w : ℕ) (big : Bool) (s : List ℕ) (at : ℕ) → length s < at + w → run (number w big) s at ≡ refused 1 at
unfolding number
number-missing w big s at h = field-missing w w (λ bs. done (value big bs)) s at h

-- so many of one width, one after the other: a division tells where the first that is missing stands
pub numbers-passed : (w : ℕ) (big : Bool) (s : List ℕ) → 0 < w → (n at : ℕ)
    → passed (run (times n (number w big)) s at) ≡ (if leb (n * w) (length s - at) then accepted tt (at + n * w) else refused 1 (at + (length s - at) / w * w))
unfolding number
numbers-passed w big s = times_width w w (value big) s

refused_cases : (s : List ℕ) (at w v n p : ℕ) (b : Bool) → refused n p ≡ (if b then accepted v (at + w) else refused 1 at) → (if b then accepted v (at + w) else refused 1 at) ≡ refused 1 at
refused_cases s at w v n p true e = let z : ◌≡◌ {A = ℕ} 0 1 = cc in absurd (omega arith)
refused_cases s at w v n p false e = refl

-- a number is refused for one reason only
pub number-refused : (w : ℕ) (big : Bool) (s : List ℕ) (at : ℕ) {n p : ℕ} → refused n p ≡ run (number w big) s at → refused 1 at ≡ run (number w big) s at
unfolding run number
number-refused w big s at {n} {p} e = sym (refused_cases s at w _ n p (leb (at + w) (length s)) e)

-- w bytes of s, the first at `at + i`
abbrev pub elems : List ℕ → ℕ → ℕ → ℕ → List ℕ
elems s at i zero = []
elems s at i (suc w) = get_or s (at + i) 0 ∷ elems s at (suc i) w

bytes-from : (s : List ℕ) (at i w : ℕ) → at + i + w ≤ length s → take w (drop (at + i) s) ≡ elems s at i w
bytes-from s at i zero h = refl
bytes-from s at i (suc w) h =
    rw (drop-cons s (at + i) 0 (omega arith)) (ap (λ l. get_or s (at + i) 0 ∷ l) (rw (← add-suc at i) (bytes-from s at (suc i) w (omega arith))))

-- a field of any width, byte by byte
pub field-bytes : (s : List ℕ) (at w : ℕ) → at + suc w ≤ length s → take (suc w) (drop at s) ≡ get_or s at 0 ∷ elems s at 1 w
field-bytes s at w h =
    rw (drop-cons s at 0 (omega arith)) (ap (λ l. get_or s at 0 ∷ l) (rw (← add-one at) (bytes-from s at 1 w (omega arith))))

-- of one byte both orders are the same
pub one_byte : (big : Bool) (s : List ℕ) (at : ℕ) → at + 1 ≤ length s → value big (take 1 (drop at s)) ≡ get_or s at 0
one_byte true s at h = ap (value true) (field-bytes s at 0 h) ∙ omega arith
one_byte false s at h = ap (value false) (field-bytes s at 0 h) ∙ omega arith

-- two halves below a unit of at most 2 ^ 32 make a number of 64 bits
pub halves_fit : (u a b : ℕ) → a < u → b < u → u ≤ 2 ^ 32 → a + u * b < 2 ^ 64
halves_fit u a b low high small =
    let i : u * suc b ≡ u * b + u = mul-suc u b in
    let j : u * suc b ≤ u * 2 ^ 32 = mul-le-mul_left u (omega arith) in
    let k : u * 2 ^ 32 ≤ 2 ^ 32 * 2 ^ 32 = mul-le-mul_right (2 ^ 32) small in
    omega arith

-- a number of two parts
pub le_append : (xs ys : List ℕ) → le_value (xs ++ ys) ≡ le_value xs + 256 ^ length xs * le_value ys
le_append [] ys = omega arith
le_append (x ∷ xs) ys = rw (pow-succ' 256 (length xs), mul_assoc 256, le_append xs ys) (omega arith)

-- a field of w and w bytes is its two parts, at any w
module _ (s : List ℕ) (at w : ℕ) (fits : at + w + w ≤ length s) where
  pub parts : take (w + w) (drop at s) ≡ take w (drop at s) ++ take w (drop (at + w) s)
  parts = take-add w w (drop at s) ∙ rw drop-drop

  part_length : (k : ℕ) → k ≤ at + w → length (take w (drop k s)) ≡ w
  part_length k h = length-take-le w (drop k s) (rw length-drop (omega arith))

  -- its value is that of the two, in either order
  pub value-halves : (big : Bool) → value big (take (w + w) (drop at s)) ≡ halves big (256 ^ w) (value big (take w (drop at s))) (value big (take w (drop (at + w) s)))
  value-halves false =
      ap le_value parts ∙ le_append (take w (drop at s)) (take w (drop (at + w) s)) ∙
      ap (λ n. le_value (take w (drop at s)) + 256 ^ n * le_value (take w (drop (at + w) s))) (part_length at (omega arith))
  value-halves true =
      ap (λ l. le_value (reverse l)) parts ∙ ap le_value (reverse-append (take w (drop at s)) (take w (drop (at + w) s))) ∙
      le_append (reverse (take w (drop (at + w) s))) (reverse (take w (drop at s))) ∙
      ap (λ n. le_value (reverse (take w (drop (at + w) s))) + 256 ^ n * le_value (reverse (take w (drop at s)))) (length-reverse (take w (drop (at + w) s)) ∙ part_length (at + w) (omega arith))
