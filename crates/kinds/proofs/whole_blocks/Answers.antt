-- `kinds::whole_blocks` meets its contract: a multiple of 256 is whole blocks of every kind, and any
-- other number by what its block holds. Assumes nothing.
use mathlib.Core.Path.{sym, subst, ◌∙◌}
use Rattle.kinds.proofs.KindTable.{Left, long_blocks}
use Rattle.kinds.proofs.WholeBlocks.{multiple-whole, whole-32, whole-short}
use Rattle.kinds.proofs.whole_blocks.Goals as goal

pub returns-then-n-eq0 : goal.returns-then-n-eq0
returns-then-n-eq0 c = multiple-whole c.args.n c.args.kind c.if-n-eq0.true

pub returns-in-32 : goal.returns-in-32
returns-in-32 c =
    let a = c.args in
    whole-32 a.n a.kind (sym c.block_size.ensures ∙ c.in-32.is)

pub returns-in_default : goal.returns-in_default
returns-in_default c =
    let a = c.args in
    whole-short a.n a.kind (subst (Left (Unit {0}) long_blocks) c.block_size.ensures c.in_default.in_default-own.rest)
