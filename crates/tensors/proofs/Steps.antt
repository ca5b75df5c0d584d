-- One program after another under ceilings, as the steps of a tensor take them: what has no mark is
-- the same without. Assumes nothing.
use Rattle.reading.proofs.CeilingLaws.{run-under}
use Rattle.fields.proofs.NumberFields.{under-number}
use Rattle.values.proofs.ValueMarks.{under-text}
use Rattle.tensors.proofs.TensorMarks.{under-shape}

pub ruleset steps = (run-under, under-number, under-text, under-shape)
