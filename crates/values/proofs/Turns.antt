-- A turn of the loops that pass one thing after the other. Assumes nothing.
use Rattle.reading.proofs.Repetition.{times-ends, times-passed, times-stops}

pub ruleset turns = (times-ends, times-passed, times-stops)
