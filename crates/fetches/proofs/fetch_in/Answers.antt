-- `fetches::fetch_in` meets its contract: each number stands in the record's own bytes. Assumes
-- nothing.
use lib.ListN.{drop}
use lib.Seq.{drop-drop}
use native.Mathlib.Omega.{arith}
use Rattle.fetches.proofs.Records.{part}
use Rattle.fetches.proofs.fetch_in.Goals as goal

pub returns : goal.returns
returns c =
    let a = c.args in
    let l = drop a.at a.trace.now in
    rw (part 4 8 20 l (omega arith), part 12 8 20 l (omega arith), drop-drop 4 a.at a.trace.now, drop-drop 12 a.at a.trace.now, c.value_in.ensures, c.value_in-2.ensures)
