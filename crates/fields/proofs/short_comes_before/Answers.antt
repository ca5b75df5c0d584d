-- `fields::short_comes_before` meets its contract: the invariant is that from the byte i on the
-- comparison answers what the whole one does. Assumes nothing.
use mathlib.Core.Path.{sym, ◌∙◌}
use native.Mathlib.Omega.{arith}
use Rattle.fields.proofs.Order.{before-ends}
use Rattle.fields.proofs.short_comes_before.Goals as goal

pub returns : goal.returns
returns c =
    let l = c.loop-i in
    before-ends c.args.a.now c.args.b.now l.i (omega arith) ∙ sym l.invariant
