-- A tensor's offset lies before the tensor's end, being its last field, and so does its name, which
-- was read on the way there. Assumes nothing.
use Prim.Native.Nat.{ℕ, ◌+◌, ◌≤◌}
use mathlib.Core.List.{List}
use native.Mathlib.Omega.{arith}
use Rattle.reading.specs.Back.{All, Sure}
use Rattle.reading.specs.Each.{each}
use Rattle.reading.proofs.SureLaws.{sure_so}
use Rattle.reading.proofs.Onward.{sure_each-by}
use Rattle.values.specs.declared.Dialect.{Dialect}
use Rattle.values.specs.Spans.{EndsBy}
use Rattle.tensors.specs.Format.{tensor, offset_place, total_of}
use Rattle.tensors.specs.declared.Tensor.{Tensor}
use Rattle.tensors.proofs.ReadAgain.{offset-last}

-- a tensor's offset, and with it the tensor, ends at or before e
abbrev pub OffsetEndsBy : ℕ → Tensor → Type 0
OffsetEndsBy e t = offset_place t + 8 ≤ e

-- what ends by an earlier place ends by a later one
offset_later : (e later : ℕ) → e ≤ later → (t : Tensor) → OffsetEndsBy e t → OffsetEndsBy later t
offset_later e later up t h = omega arith

pub tensors-end : (k : Dialect) (s : List ℕ) (n total p : ℕ) → Sure s (each (tensor k) total_of n total) p (λ l q. All (OffsetEndsBy q) l)
tensors-end k s n total p = sure_each-by (tensor k) total_of offset_later (λ z o. sure_so (offset-last k s z o) (λ t q e. omega arith)) n total p

-- the name ends before the offset
pub name-before : (e : ℕ) (t : Tensor) → OffsetEndsBy e t → EndsBy e t.name
name-before e t h = omega arith
