-- Ceilings before the first record: the magic and the counts have no mark, and no version is above
-- 3. Assumes nothing.
use Rattle.std.specs.Prelude.{if◌then◌else◌}
use Prim.Native.Nat.{ℕ, ◌≤◌}
use mathlib.Core.Path.{◌≡◌}
use mathlib.Core.List.{List}
use mathlib.Core.Bool.{Bool, true, false}
use native.Mathlib.Omega.{arith}
use lib.Dec.{leb, eqb}
use borrow.Author.Tests.{eqb-true, leb-true, le-leb}
use Rattle.reading.specs.Ceilings.{Low, under}
use Rattle.reading.specs.Reading.{a_version, run}
use Rattle.reading.proofs.CeilingLaws.{low_run, low_bind, low-done, low-here, low-mark, low-checked, low-refuse, low_if}
use Rattle.fields.proofs.NumberFields.{low-number}
use Rattle.start.specs.Format.{known_version, known_dialect, dialect_by, version, start, little_magic, big_magic, older_magic, magic, counts}
use Rattle.start.specs.declared.Rooms.{Rooms}
use Rattle.reading.specs.declared.Limits.{Limits}
use Rattle.values.specs.Format.{size}
use Rattle.values.specs.declared.Dialect.{Dialect}

-- a known version is at most 3
pub version-small : (v : ℕ) → known_version v ≡ true → v ≤ 3
version-small v e = by (eqb v 0) e
  where
    by : (b : Bool) → (if b then false else leb v 3) ≡ true → v ≤ 3
    by true e = let z : ◌≡◌ {A = ℕ} 0 1 = cc in absurd (omega arith)
    by false e = leb-true v 3 e

-- so is the version of a known form
pub dialect-small : (k : Dialect) → known_dialect k ≡ true → k.version ≤ 3
dialect-small k e = by k.version k.big k.turned e
  where
    by : (v : ℕ) (big turned : Bool) → known_dialect (record { version = v; big = big; turned = turned }) ≡ true → v ≤ 3
    by v true true e = version-small v e
    by v true false e = omega (arith, eqb-true v 3 e)
    by v false true e = let z : ◌≡◌ {A = ℕ} 0 1 = cc in absurd (omega arith)
    by v false false e = version-small v e

module _ (l : Limits) where
  pub low-magic : Low l magic
  unfolding magic
  low-magic =
      low_bind l _ _ (low-here l) (λ p. low_bind l _ _ (low-number l _ _) (λ m.
      low_if l (eqb m little_magic) _ _ (low-done l _) (low_if l (eqb m big_magic) _ _ (low-done l _)
      (low_if l (older_magic m) _ _ (low-refuse l _ 2 p) (low-refuse l _ 3 p)))))

  low-size : (k : Dialect) → Low l (size k)
  unfolding size
  low-size k = low-number l _ _

  pub low-counts : (rooms : Rooms) (k : Dialect) → Low l (counts rooms k)
  unfolding counts
  low-counts rooms k =
      low_bind l _ _ (low-here l) (λ p. low_bind l _ _ (low-size k) (λ n. low_bind l _ _ (low-here l) (λ q. low_bind l _ _ (low-size k) (λ m.
      low-checked l (leb n rooms.tensors) 6 p _ (λ e. low-checked l (leb m rooms.entries) 6 q _ (λ e. low-done l _))))))

  pub under-magic : (s : List ℕ) (p : ℕ) → run (under l magic) s p ≡ run magic s p
  under-magic s p = low_run l magic low-magic s p

  pub under-counts : (rooms : Rooms) (k : Dialect) (s : List ℕ) (p : ℕ) → run (under l (counts rooms k)) s p ≡ run (counts rooms k) s p
  under-counts rooms k s p = low_run l (counts rooms k) (low-counts rooms k) s p

module _ (l : Limits) (versions : 3 ≤ l.versions) where
  low-version : (turned : Bool) → Low l (version turned)
  unfolding version
  low-version turned =
      low_bind l _ _ (low-here l) (λ p. low_bind l _ _ (low-number l 4 turned) (λ v. low-checked l (known_dialect (dialect_by turned v)) 4 p _ (λ e.
      low_bind l _ _ (low-mark l a_version (dialect_by turned v).version p (le-leb _ l.versions (omega (arith, dialect-small (dialect_by turned v) e)))) (λ u. low-done l _))))

  pub low-start : (rooms : Rooms) → Low l (start rooms)
  unfolding start
  low-start rooms = low_bind l _ _ (low-magic l) (λ turned. low_bind l _ _ (low-version turned) (low-counts l rooms))
