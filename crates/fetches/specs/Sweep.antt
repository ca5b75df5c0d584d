-- What the steps of a sweep through a tensor's bytes, from lo to end, keep true. Private functions
-- alone speak of it: the file's length has no part in it, because the tensor ends inside the file.
use Rattle.std.specs.Prelude.{ℕ, suc, ◌+◌, ◌-◌, ◌*◌, ◌≤◌, ◌<◌, ◌≡◌, List, get_or}
use Rattle.fetches.specs.Trace.{fetch_end}
use Rattle.fetches.specs.declared.Fetch.{Fetch}
use Rattle.fetches.specs.declared.Sweep.{Sweep}

-- record i of a list, from 0; past the last one that fetches nothing
abbrev pub nth : List Fetch → ℕ → Fetch
nth l i = get_or l i (record { offset = 0; count = 0 })

-- the byte x is in the range of the record
pub record In (f : Fetch) (x : ℕ) : Type 0 where
  pub low : f.offset ≤ x
  pub high : x < fetch_end f

-- one of the first k records has x in its range
pub record Has (l : List Fetch) (k x : ℕ) : Type 0 where
  pub which : ℕ
  pub among : which < k
  pub within : In (nth l which) x

-- a byte of the tensor is in none of the first k records
pub record Lacks (l : List Fetch) (lo end k : ℕ) : Type 0 where
  pub byte : ℕ
  pub low : lo ≤ byte
  pub high : byte < end
  pub none : (j : ℕ) → j < k → In (nth l j) byte → ⊥

-- where a sweep stands
pub record Swept (l : List Fetch) (lo end : ℕ) (w : Sweep) : Type 0 where
  pub low : lo ≤ w.from
  pub tops : w.gap ≤ end
  pub ahead : w.from < end → w.from < w.gap
  pub before : w.settled ≤ w.next
  pub front : (x : ℕ) → lo ≤ x → x < w.from → Has l w.used x
  pub behind : (x : ℕ) → w.gap ≤ x → x < w.reach → Has l w.next x
  pub missing : (j x : ℕ) → j < w.next → w.from ≤ x → x < w.gap → In (nth l j) x → ⊥
  pub settles : (j x : ℕ) → j < w.settled → w.from ≤ x → x < end → In (nth l j) x → ⊥
  pub needed : (k : ℕ) → k < w.used → Lacks l lo end k

-- what falls with each step, where there are n records
abbrev pub left : ℕ → ℕ → Sweep → ℕ
left n end w = (end - w.from) * suc n + (n - w.next)

-- r is a step of w, past a record that has the bytes from a to b
pub record Steps (w : Sweep) (a b end : ℕ) (r : Sweep) : Type 0 where
  pub keeps : (l : List Fetch) (lo : ℕ) → Swept l lo end w → w.from < end → (nth l w.next).offset ≡ a → fetch_end (nth l w.next) ≡ b → Swept l lo end r
  pub falls : (n : ℕ) → w.from < end → w.settled ≤ w.next → w.next < n → left n end r < left n end w

-- none of the bytes from a to b is one of the tensor's from `from` on
abbrev pub Misses : Sweep → ℕ → ℕ → ℕ → Type 0
Misses w a b end = (x : ℕ) → w.from ≤ x → x < end → a ≤ x → x < b → ⊥

-- the first r records are those that were settled and, at most, the next one
pub record Settles (settled next r : ℕ) : Type 0 where
  pub most : settled ≤ next → r ≤ suc next
  pub only : (j : ℕ) → j < r → settled ≤ j → j ≡ next
