-- A tensor has one mark, and no known kind is above 39: ceilings from there on change nothing.
-- Assumes nothing.
use Prim.Native.Nat.{ℕ, ◌≤◌}
use mathlib.Core.Path.{◌≡◌, refl, ap}
use mathlib.Core.List.{List}
use mathlib.Core.Bool.{Bool, true, false}
use native.Mathlib.Omega.{arith}
use lib.Dec.{leb, ltb}
use borrow.Author.Tests.{leb-true, leb-false, le-leb, ltb-true}
use Rattle.reading.specs.Ceilings.{under, Low}
use Rattle.reading.specs.Reading.{a_kind, run}
use Rattle.tensors.specs.Format.{length_at, lengths_of, shape, kind_and_offset, tensor}
use Rattle.reading.proofs.CeilingLaws.{low_run, low_bind, low-done, low-here, low-mark, low_if, low-checked}
use Rattle.fields.proofs.NumberFields.{low-number}
use Rattle.kinds.specs.Table.{block_of, known_kind}
use Rattle.kinds.proofs.KindTable.{past}
use Rattle.values.specs.declared.Dialect.{Dialect}
use Rattle.reading.specs.declared.Limits.{Limits}
use Rattle.kinds.specs.declared.Block.{Block}
use Rattle.values.proofs.ValueMarks.{low-text}
use Rattle.tensors.proofs.Fitting.{low-fitting}

-- a known kind is in the table
kind_cases : (t : ℕ) (b : Bool) → leb t 39 ≡ b → known_kind t ≡ true → t ≤ 39
kind_cases t true e h = leb-true t 39 e
kind_cases t false e h = absurd (omega (arith, ltb-true 0 (block_of t).numbers h, ap (λ (a : Block). a.numbers) (past t (leb-false t 39 e))))

pub kind-small : (t : ℕ) → known_kind t ≡ true → t ≤ 39
kind-small t h = kind_cases t (leb t 39) refl h

module _ (l : Limits) (k : Dialect) where
  low-length : (n i : ℕ) → Low l (length_at k n i)
  unfolding length_at
  low-length n i = low_if l (ltb i n) _ _ (low-number l 8 k.big) (low-done l 1)

  low-lengths : (n : ℕ) → Low l (lengths_of k n)
  unfolding lengths_of
  low-lengths n = low_bind l _ _ (low-length n 0) (λ a. low_bind l _ _ (low-length n 1) (λ b. low_bind l _ _ (low-length n 2) (λ c. low_bind l _ _ (low-length n 3) (λ d. low-done l _))))

  pub low-shape : Low l (shape k)
  unfolding shape
  low-shape = low_bind l _ _ (low-here l) (λ p. low_bind l _ _ (low-number l 4 k.big) (λ n. low-checked l (leb n 4) 10 p _ (λ e. low-lengths n)))

  pub under-shape : (s : List ℕ) (p : ℕ) → run (under l (shape k)) s p ≡ run (shape k) s p
  under-shape s p = low_run l (shape k) low-shape s p

module _ (l : Limits) (high : 39 ≤ l.kinds) (k : Dialect) where
  low-stored : Low l (kind_and_offset k)
  unfolding kind_and_offset
  low-stored =
      low_bind l _ _ (low-here l) (λ p. low_bind l _ _ (low-number l 4 k.big) (λ t. low_bind l _ _ (low-number l 8 k.big) (λ o.
      low-checked l (known_kind t) 11 p _ (λ e. low_bind l _ _ (low-mark l a_kind t p (le-leb t l.kinds (omega (arith, kind-small t e)))) (λ u. low-done l _)))))

  pub low-tensor : (total : ℕ) → Low l (tensor k total)
  unfolding tensor
  low-tensor total =
      low_bind l _ _ (low-here l) (λ p. low_bind l _ _ (low-text l k) (λ name. low_bind l _ _ (low-shape l k) (λ x. low_bind l _ _ low-stored (λ y.
      low-fitting p total name x y l))))

  -- so no ceiling from 39 on changes what a tensor is
  pub under-tensor : (total : ℕ) (s : List ℕ) (p : ℕ) → run (under l (tensor k total)) s p ≡ run (tensor k total) s p
  under-tensor total s p = low_run l (tensor k total) (low-tensor total) s p
