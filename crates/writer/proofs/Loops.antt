-- A loop of writers: each turn lends the rest of the output, from the middle, to one that writes
-- what comes next. Assumes nothing.
use Prim.Native.Nat.{ℕ, ◌+◌, ◌-◌, ◌≤◌}
use mathlib.Core.Path.{◌≡◌, refl, ◌∙◌}
use mathlib.Core.List.{List, [], ◌++◌, append_assoc, append-nil}
use native.Mathlib.Omega.{arith}
use lib.ListN.{length, length-append}
use borrow.Rule.Slice.PartMut.{mid_of, put_mid, same_len_mid}
use Rattle.fields.specs.Bytes.{Wrote}
use Rattle.fields.proofs.Chain.{chain}

-- at bytes of whole are written where o was, and rest is left to write
pub record Part (o out : List ℕ) (at : ℕ) (rest whole : List ℕ) : Type 0 where
  pub done : List ℕ
  pub wrote : Wrote done o out at
  pub all : done ++ rest ≡ whole
  pub same : length out ≡ length o

-- at the start all is left
pub part-start : (o whole : List ℕ) → Part o o 0 whole whole
part-start o whole = record { done = []; wrote = record { count = refl; bytes = refl }; all = refl; same = refl }

-- a turn
pub part-turn : {o out : List ℕ} {at : ℕ} {rest whole : List ℕ} (e more ys : List ℕ) (n : ℕ) → Part o out at rest whole → rest ≡ e ++ more
    → Wrote e (mid_of at (length out - at) out) ys n → length ys ≡ length (mid_of at (length out - at) out)
    → Part o (put_mid at (length out - at) out ys) (at + n) more whole
part-turn {o} {out} {at} e more ys n h r w s = record {
  done = h.done ++ e;
  wrote = chain h.wrote w;
  all = rw append_assoc (rw r at h.all);
  same = same_len_mid at (length out - at) out ys s ∙ h.same;
}

-- at the end nothing is left
pub part_end : {o out : List ℕ} {at : ℕ} {rest whole : List ℕ} → Part o out at rest whole → rest ≡ [] → Wrote whole o out at
part_end h z = let w = rw (z, append-nil) at h.all in rw (← w) h.wrote

-- what is written and what is left come to the whole
pub part-size : {o out : List ℕ} {at : ℕ} {rest whole : List ℕ} → Part o out at rest whole → at + length rest ≡ length whole
part-size {rest = rest} h = rw (h.wrote.count, ← length-append h.done rest, h.all)

-- so there is room for what is left
pub part_room : {o out : List ℕ} {at : ℕ} {rest whole : List ℕ} → Part o out at rest whole → length whole ≤ length o → at + length rest ≤ length out
part_room h room = omega (arith, part-size h, h.same)
