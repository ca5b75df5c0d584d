-- What is noted of offsets while tensors are passed decides the last test: the place is that of the
-- first offset that is misaligned, or 0. Assumes nothing.
use Rattle.std.specs.Prelude.{if◌then◌else◌}
use Prim.Native.Nat.{ℕ, ◌<◌}
use mathlib.Core.Path.{◌≡◌, refl, ap, ◌∙◌}
use mathlib.Core.List.{List, [], ◌∷◌}
use mathlib.Core.Bool.{Bool, true, false}
use native.Mathlib.Omega.{arith}
use lib.Dec.{eqb}
use borrow.Author.Tests.{ne_eqb}
use Rattle.reading.specs.Each.{check_each, fold}
use Rattle.reading.specs.Reading.{Reading, ◌>>=◌, ◌>>◌, check}
use Rattle.tensors.specs.Format.{offset_place}
use Rattle.tensors.specs.declared.Tensor.{Tensor}
use Rattle.header.specs.Format.{is_aligned}
use Rattle.header.specs.Steps.{noted}

-- what was noted stays
stays_cases : (a m : ℕ) (t : Tensor) (b : Bool) → 0 < m → (if b then m else if eqb m 0 then offset_place t else m) ≡ m
stays_cases a m t true some = refl
stays_cases a m t false some = rw (ne_eqb m 0 (λ e. omega arith)) refl

stays-noted : (a m : ℕ) → 0 < m → (ts : List Tensor) → fold (noted a) m ts ≡ m
stays-noted a m some [] = refl
stays-noted a m some (t ∷ ts) = ap (λ x. fold (noted a) x ts) (stays_cases a m t (is_aligned a t) some) ∙ stays-noted a m some ts

-- the test of each offset, by the place that is noted
abbrev pub test_noted : ℕ → Reading (Unit {0})
test_noted m = check (eqb m 0) 16 m

module _ (a : ℕ) where
  first_cases : (t : Tensor) (ts : List Tensor) (b : Bool) → check_each (is_aligned a) 16 offset_place ts ≡ test_noted (fold (noted a) 0 ts)
      → (check b 16 (offset_place t) >> check_each (is_aligned a) 16 offset_place ts) ≡ test_noted (fold (noted a) (if b then 0 else offset_place t) ts)
  unfolding ◌>>=◌
  first_cases t ts true rest = rest
  first_cases t ts false rest =
      let m = offset_place t in
      let some : 0 < m = omega arith in
      rw (stays-noted a m some ts, ne_eqb m 0 (λ e. omega arith)) refl

  pub as-noted : (ts : List Tensor) → check_each (is_aligned a) 16 offset_place ts ≡ test_noted (fold (noted a) 0 ts)
  unfolding check_each
  as-noted [] = refl
  as-noted (t ∷ ts) = first_cases t ts (is_aligned a t) (as-noted ts)
