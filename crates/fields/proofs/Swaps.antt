-- Four bytes that were read as a little-endian number, turned round: the big-endian number of the
-- same bytes. Assumes nothing.
use Prim.Native.Nat.{ℕ, zero, suc, ◌+◌, ◌*◌, ◌/◌, ◌%◌, ◌≤◌, ◌<◌}
use mathlib.Core.Path.{◌≡◌, sym, ap, ◌∙◌}
use mathlib.Core.List.{List}
use mathlib.Core.Bool.{true, false}
use native.Mathlib.Omega.{arith}
use lib.ListN.{length, take, drop, get_or, length-drop}
use lib.Seq.{length-take-le}
use Rattle.reading.specs.Back.{All}
use Rattle.fields.specs.Bytes.{Byte, bytes_of}
use Rattle.fields.specs.Value.{le_value, value}
use Rattle.fields.proofs.Numbers.{elems, field-bytes}
use Rattle.fields.proofs.Bytes.{bytes-value}

module _ (s : List ℕ) (bytes : (i : ℕ) → get_or s i 0 < 256) where
  elems-bytes : (at i w : ℕ) → All Byte (elems s at i w)
  elems-bytes at i zero = tt
  elems-bytes at i (suc w) = (bytes (at + i), elems-bytes at (suc i) w)

  -- a field of a slice of bytes is bytes
  pub field_of_bytes : (at w : ℕ) → at + suc w ≤ length s → All Byte (take (suc w) (drop at s))
  field_of_bytes at w h = rw (field-bytes s at w h) (bytes at, elems-bytes at 1 w)

  pub turned-four : (at : ℕ) → at + 4 ≤ length s → value true (bytes_of false 4 (le_value (take 4 (drop at s)))) ≡ value true (take 4 (drop at s))
  turned-four at h =
      let l : List ℕ = take 4 (drop at s) in
      let e : length l ≡ 4 = length-take-le 4 (drop at s) (rw length-drop (omega arith)) in
      ap (λ n. value true (bytes_of false n (le_value l))) (sym e) ∙ ap (value true) (bytes-value false l (field_of_bytes at 3 h))

-- the halves of a number of eight bytes
pub low_half : (a b : ℕ) → a < 4294967296 → (a + 4294967296 * b) % 4294967296 ≡ a
low_half a b h = omega arith

pub high_half : (a b : ℕ) → a < 4294967296 → (a + 4294967296 * b) / 4294967296 ≡ b
high_half a b h = omega arith
