-- `fetches::fill` meets its contract: at each turn the table, with the answers that are still to
-- come, is the whole one. Assumes nothing.
use mathlib.Core.Path.{sym, ◌∙◌}
use native.Mathlib.Omega.{arith}
use Rattle.reading.specs.Back.{got}
use Rattle.fetches.specs.Trace.{fetches}
use Rattle.fetches.specs.Replay.{answer_of}
use Rattle.fetches.proofs.Fills.{fill_ends, all-written}
use Rattle.fetches.proofs.fill.Goals as goal

pub returns : goal.returns
returns c =
    let a = c.args in
    let g = answer_of a.start a.file (got (fetches a.trace.now)) in
    sym (all-written _ _ _ _ _ c.requires.1 c.requires.0 ∙ c.loop-i.invariant.1 ∙ fill_ends g a.rows.now c.loop-i.i c.loop-i.answers (omega arith))
