-- Rows for any count: a reader that has them never refuses because there are too few, since a count
-- that was read is below 2 ^ 64. Assumes nothing.
use Rattle.std.specs.Prelude.{if◌then◌else◌}
use Prim.Native.Nat.{ℕ, ◌^◌, ◌≤◌, ◌<◌}
use mathlib.Core.Path.{◌≡◌, refl, sym}
use mathlib.Core.List.{List}
use mathlib.Core.Bool.{Bool, true, false}
use native.Mathlib.Omega.{arith}
use lib.Dec.{eqb}
use Rattle.reading.specs.Back.{All}
use Rattle.fields.specs.Bytes.{Byte, Within}
use Rattle.reading.specs.Ceilings.{under}
use Rattle.reading.specs.Refusals.{Refuses}
use Rattle.reading.specs.Reading.{refused, run}
use Rattle.reading.specs.declared.Limits.{Limits}
use Rattle.reading.proofs.SureLaws.{sure_so}
use Rattle.kinds.specs.Shape.{greatest}
use Rattle.values.specs.Format.{size_width}
use Rattle.values.specs.declared.Dialect.{Dialect}
use Rattle.values.proofs.ValuesFit.{sure_size}
use Rattle.header.specs.Format.{header}
use Rattle.start.specs.Format.{enough}
use Rattle.header.proofs.HeaderRefusals.{not_listed, refuses_header}

-- a size fits 64 bits
size_fits : (k : Dialect) (n : ℕ) → Within (size_width k) n → n ≤ greatest
size_fits k n h = by (eqb k.version 1) h
  where
    by : (b : Bool) → n < 256 ^ (if b then 4 else 8) → n ≤ greatest
    by true h = omega arith
    by false h = omega arith

never-rows : (l : Limits) (cap : ℕ) (s : List ℕ) → All Byte s → Refuses l s (λ n q. n ≡ 6 → ⊥) (header enough cap)
never-rows l cap s bytes =
    refuses_header enough cap (λ n q h low. not_listed 6 n refl h)
    (λ k p. sure_so (sure_size k s bytes p) (λ n q h o low.
    let small : n ≤ greatest = size_fits k n h in
    (λ f i. omega arith, λ f i. omega arith)))
    (λ k n p es q e read low f i. omega arith)

-- nor does a reader with any ceilings refuse bytes for that
pub never-6 : (limits : Limits) (cap : ℕ) (s : List ℕ) → All Byte s → {p : ℕ} → run (under limits (header enough cap)) s 0 ≡ refused 6 p → ⊥
never-6 limits cap s bytes {p} e = (never-rows limits cap s bytes).refusal 0 (omega arith) 6 p (sym e) refl
