-- A number as a field of a program: it has no mark, it reads back from its bytes, and it ends right
-- after them. Assumes nothing.
use Prim.Native.Nat.{ℕ, ◌+◌, ◌^◌, ◌≤◌, ◌<◌}
use mathlib.Core.Path.{◌≡◌, refl, sym, ap, ◌∙◌}
use mathlib.Core.List.{List}
use mathlib.Core.Bool.{Bool}
use native.Mathlib.Omega.{arith}
use lib.ListN.{length, take, drop, length-drop}
use lib.Seq.{take-take, take-length, length-take-le}
use Rattle.reading.specs.Back.{same, Back, All, Sure}
use Rattle.fields.specs.Bytes.{bytes_of, Byte}
use Rattle.reading.specs.Reading.{accepted, run}
use Rattle.fields.specs.Value.{value, number}
use Rattle.fields.proofs.Bytes.{length_bytes_of, value-bytes, all_take, all_drop, value-small}
use Rattle.reading.proofs.BackLaws.{looked-at}
use Rattle.reading.specs.Ceilings.{under, Low}
use Rattle.reading.specs.declared.Limits.{Limits}
use Rattle.reading.proofs.SureLaws.{sure_field}
use Rattle.reading.specs.Refusals.{Refuses}
use Rattle.reading.proofs.RefusalLaws.{refuses_field}

module _ {s : List ℕ} where
  -- a number that fits its width
  pub number-back : (w : ℕ) (big : Bool) (v p : ℕ) → v < 256 ^ w → Back s same (number w big) p (bytes_of big w v) v
  unfolding number
  number-back w big v p fits =
      let n : length (bytes_of big w v) ≡ w = length_bytes_of big w v in
      looked-at (value big) (sym n) (ap (value big) (ap (λ x. take x (bytes_of big w v)) (sym n) ∙ take-length (bytes_of big w v)) ∙ value-bytes big w v fits)

-- one program after another, a repetition, and a number, with ceilings
module _ (l : Limits) where
  pub under-number : (w : ℕ) (big : Bool) → under l (number w big) ≡ number w big
  unfolding under number
  under-number w big = refl

-- a program with no mark above its ceiling is the same under the ceilings
module _ (l : Limits) where
  pub low-number : (w : ℕ) (big : Bool) → Low l (number w big)
  unfolding Low number
  low-number w big = λ bs. tt

-- a number is that of its bytes, which are there, and ends right after them
pub number-told : (s : List ℕ) (w : ℕ) (big : Bool) (p : ℕ) → Sure s (number w big) p (λ v q. (q ≡ p + w) × (q ≤ length s) × (v ≡ value big (take w (drop p s))))
unfolding number
number-told s w big p = sure_field (λ there. (refl, there, ap (value big) (take-take w w (drop p s) (omega arith))))

pub number-within : (w : ℕ) (big : Bool) (s : List ℕ) (at : ℕ) {v q : ℕ} → accepted v q ≡ run (number w big) s at → q ≤ length s
number-within w big s at {v} {q} e = ((number-told s w big at).holds v q e).1

-- a number is below its width's power
pub sure_number : (s : List ℕ) → All Byte s → (w : ℕ) (big : Bool) (p : ℕ) → Sure s (number w big) p (λ v q. v < 256 ^ w)
unfolding number
sure_number s bytes w big p = sure_field (λ there.
    let n : length (take w (drop p s)) ≡ w = length-take-le w (drop p s) (rw length-drop (omega arith)) in
    rw (take-take w w (drop p s) (omega arith)) (rw n at (value-small big (take w (drop p s)) (all_take w (drop p s) (all_drop p s bytes)))))

-- a number that is not wholly there is refusal 1, and no other
pub refuses_number : {l : Limits} {s : List ℕ} {P : ℕ → ℕ → Type 0} (w : ℕ) (big : Bool) → ((q : ℕ) → q ≤ length s → P 1 q) → Refuses l s P (number w big)
unfolding number
refuses_number w big h = refuses_field h
