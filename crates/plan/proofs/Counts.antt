-- The test of the counts, with a greatest count that leaves room for an entry that is added.
-- Assumes nothing.
use Prim.Native.Nat.{ℕ, ◌+◌, ◌≤◌, ◌<◌, max}
use mathlib.Core.Path.{◌≡◌, refl}
use mathlib.Core.Bool.{Bool, true, false}
use native.Mathlib.Omega.{arith}
use lib.Dec.{leb}
use borrow.Author.Tests.{eq-eqb, le-leb, lt-leb, leb-true, leb-false}
use Rattle.values.specs.declared.Dialect.{Dialect}
use Rattle.plan.specs.Plan.{counts_fit}

module _ (k : Dialect) (n m x most : ℕ) (one : k.version ≡ 1) (sum : most + x ≡ 4294967295) where
  pub counts-over : most < n → false ≡ counts_fit k (n + x) m
  counts-over h =
      let o : 4294967295 < max (n + x) m = omega arith in
      rw (eq-eqb _ _ one, lt-leb (max (n + x) m) 4294967295 o)

  pub counts-rest : n ≤ most → leb m 4294967295 ≡ counts_fit k (n + x) m
  counts-rest h = by (leb m 4294967295) refl
    where
      by : (b : Bool) → leb m 4294967295 ≡ b → b ≡ counts_fit k (n + x) m
      by true e =
          let i : m ≤ 4294967295 = leb-true _ _ e in
          let o : max (n + x) m ≤ 4294967295 = omega arith in
          rw (eq-eqb _ _ one, le-leb (max (n + x) m) 4294967295 o)
      by false e =
          let i : 4294967295 < m = leb-false _ _ e in
          let o : 4294967295 < max (n + x) m = omega arith in
          rw (eq-eqb _ _ one, lt-leb (max (n + x) m) 4294967295 o)
