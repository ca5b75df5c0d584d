-- A sweep from its start to its end: what it found is the answer. Assumes nothing.
use Prim.Native.Nat.{ℕ, ◌+◌, ◌-◌, ◌≤◌, ◌<◌}
use mathlib.Core.Path.{◌≡◌}
use mathlib.Core.List.{List}
use native.Mathlib.Omega.{arith}
use lib.ListN.{length, get_or-eq_default}
use Rattle.fetches.specs.Replay.{never, first_after}
use Rattle.fetches.specs.Sweep.{nth, In, Has, Lacks, Swept}
use Rattle.fetches.specs.declared.Fetch.{Fetch}
use Rattle.fetches.specs.declared.Sweep.{Sweep}
use Rattle.reading.proofs.Cases.{split}
use Rattle.fetches.proofs.Meaning.{Delivered, Complete, after, nowhere, told, only}

-- nothing is in a record past the last
past-last : (l : List Fetch) (i x : ℕ) → length l ≤ i → In (nth l i) x → ⊥
past-last l i x h t = let g = rw (get_or-eq_default l _ h) at t.high in omega arith

module _ (file : ℕ) (l : List Fetch) (x n : ℕ) where
  -- no bytes are complete before the first record
  pub none_wanted : n ≡ 0 → 0 ≡ first_after file l x n
  none_wanted h = only file l x n _ _ (after 0 (λ y g i. absurd (omega arith)) (λ j g all. omega arith)) (told file l x n)

  -- the last byte is not in the file
  pub cut_off : 0 < n → file < x + n → never ≡ first_after file l x n
  cut_off some h = only file l x n _ _ (nowhere (λ k all. let d = all (x + (n - 1)) (omega arith) (omega arith) in omega (arith, d.does.inside))) (told file l x n)

module _ (file : ℕ) (l : List Fetch) (lo end : ℕ) (inside : end ≤ file) where
  has-delivered : (k x : ℕ) → x < end → Has l k x → Delivered file l k x
  has-delivered k x h t =
      split t.which (length l)
      (λ p. record { which = t.which; among = t.among; there = p; does = record { within = t.within; inside = omega arith } })
      (λ p. absurd (past-last l t.which x p t.within))

  lacking : (k : ℕ) → lo ≤ end → Lacks l lo end k → Complete file l lo (end - lo) k → ⊥
  lacking k h t all =
      let d = all t.byte t.low (omega (arith, t.low, t.high)) in
      t.none d.which d.among d.does.within

  module _ (w : Sweep) (z : Swept l lo end w) where
    -- past the end of the tensor: the records in use are the answer
    pub at_the_end : lo < end → end ≤ w.from → w.used ≡ first_after file l lo (end - lo)
    at_the_end some h =
        only file l lo (end - lo) _ _
        (after w.used (λ y g i. has-delivered w.used y (omega arith) (z.front y g (omega arith))) (λ j g all. lacking j (omega arith) (z.needed j g) all))
        (told file l lo (end - lo))

    -- past the last record, with a byte that is missing
    pub not-at-all : w.from < end → length l ≤ w.next → never ≡ first_after file l lo (end - lo)
    not-at-all h last =
        only file l lo (end - lo) _ _
        (nowhere
        (λ k all.
        let d = all w.from z.low (omega (arith, z.low)) in
        z.missing d.which w.from (omega (arith, d.there)) (omega arith) (z.ahead h) d.does.within))
        (told file l lo (end - lo))

-- a sweep that begins
pub begins : (l : List Fetch) (lo end : ℕ) → lo < end → Swept l lo end (record { next = 0; settled = 0; used = 0; from = lo; gap = end; reach = end })
begins l lo end h =
    record {
      low = omega arith;
      tops = omega arith;
      ahead = λ g. g;
      before = omega arith;
      front = λ x g i. absurd (omega arith);
      behind = λ x g i. absurd (omega arith);
      missing = λ j x g. absurd (omega arith);
      settles = λ j x g. absurd (omega arith);
      needed = λ k g. absurd (omega arith);
    }
