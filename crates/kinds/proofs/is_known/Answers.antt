-- `kinds::is_known` meets its contract: the kinds from 6 to 39 are known, and past the table there is
-- none. Assumes nothing.
use mathlib.Core.Path.{ap}
use native.Mathlib.Omega.{arith}
use lib.Dec.{ltb}
use Rattle.kinds.specs.Table.{block_of}
use Rattle.kinds.proofs.KindTable.{known_in, past}
use Rattle.kinds.proofs.is_known.Goals as goal

pub returns-in_default-2 : goal.returns-in_default-2
unfolding block_of
returns-in_default-2 c = ap (λ b. ltb 0 b.numbers) (past c.args.kind (omega arith))

pub returns-in-0-to-3-2 : goal.returns-in-0-to-3-2
unfolding block_of
returns-in-0-to-3-2 c = known_in 6 34 tt c.args.kind (omega arith) (omega arith)
