use mathlib.Core.Path.{◌≡◌}
use lib.ListN.{length, drop}
use Prim.Native.Nat.{◌+◌, ◌≤◌}
use Rattle.values.specs.Format.{begins}
use Rattle.values.proofs.Texts.{begins_from}
use Rattle.values.proofs.begins_at.Given as goal

abbrev pub invariant-loop-i : goal.invariant-loop-i
invariant-loop-i l =
    (l.place + length l.word ≤ length l.s) × (begins l.word (drop l.place l.s) ≡ begins_from l.s l.place l.word l.i)
