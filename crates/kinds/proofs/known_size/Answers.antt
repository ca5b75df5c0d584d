-- `kinds::known_size` meets its contract: each arm divides by the numbers of its blocks, and other
-- blocks hold none. Assumes nothing.
use mathlib.Core.Path.{sym, subst}
use native.Mathlib.Nat.{div-zero}
use Rattle.kinds.proofs.KindTable.{Left, block_arms, other_block}
use Rattle.kinds.proofs.known_size.Goals as goal

pub returns-in_default : goal.returns-in_default
returns-in_default c =
    let k = c.args.kind in
    let none = other_block k (subst (Left (Unit {0}) block_arms) c.block_size.ensures c.in_default.in_default-own.rest) in
    rw (← none) (sym (div-zero _))
