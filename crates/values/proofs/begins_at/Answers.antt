-- `values::begins_at` meets its contract where there are too few bytes. Assumes nothing.
use Prim.Native.Nat.{◌<◌}
use mathlib.Core.Path.{◌∙◌}
use native.Mathlib.Omega.{arith}
use lib.ListN.{length, drop, length-drop}
use Rattle.values.proofs.Texts.{begins-few}
use Rattle.values.proofs.begins_at.Goals.{then-s-word-via-then-s-word, then-s-word-via-else-s-word+then-s-word-2}
use Rattle.values.proofs.begins_at.Goals as goal

pub returns-then-s-word : goal.returns-then-s-word
returns-then-s-word c =
    let w = c.args.word.now in
    let rest = drop c.args.place c.args.s.now in
    let few : 0 < length w → length rest < length w = λ h. rw length-drop (elim c.then-s-word.branch [
      | then-s-word-via-then-s-word b ↦ omega (arith, b.if-s-word.true)
      | then-s-word-via-else-s-word+then-s-word-2 b ↦ omega (arith, b.if-s-word.false, b.if-s-word-2.true)
    ]) in
    c.is_empty.ensures ∙ begins-few w rest few
