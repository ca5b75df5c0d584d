-- One program after another under ceilings, as the steps before the first record take them: what has
-- no mark is the same without. Assumes nothing.
use Rattle.reading.proofs.CeilingLaws.{run-under}
use Rattle.fields.proofs.NumberFields.{under-number}
use Rattle.start.proofs.StartMarks.{under-magic, under-counts}

pub ruleset steps = (run-under, under-number, under-magic, under-counts)
