use mathlib.Core.Path.{◌≡◌}
use mathlib.Core.List.{◌++◌, map}
use lib.ListN.{length, drop}
use Rattle.reading.specs.Back.{got}
use Rattle.fetches.specs.Trace.{fetches}
use Rattle.fetches.specs.Replay.{answer_of}
use Rattle.fetches.proofs.Fills.{filled_from}
use Rattle.fetches.proofs.fill.Given as goal

abbrev pub invariant-loop-i : goal.invariant-loop-i
invariant-loop-i l =
    (length l.answers ≡ length l.initial.answers)
    × (map (answer_of l.start l.file (got (fetches l.trace))) l.rows ++ drop (length l.rows) l.initial.answers ≡ filled_from (answer_of l.start l.file (got (fetches l.trace))) l.rows l.i l.answers)
