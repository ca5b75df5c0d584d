-- The laws that the steps of a sheet's programs are proved by. Assumes nothing.
use borrow.Author.Tests.{tests}
use Rattle.reading.proofs.RunLaws.{run_bind}
use Rattle.reading.proofs.Repetition.{times-ends}
use Rattle.fields.proofs.NumberFields.{number-within}
use Rattle.sheet.proofs.BackFromAnswers.{steps_on, steps-not}

-- the fields of a program, one after the other
pub ruleset steps = (run_bind, tests)

-- where an entry's length is known to be inside, too
pub ruleset opening_steps = (run_bind, tests, number-within)

-- a turn of the loops that pass one thing after the other
pub ruleset turns = (times-ends, steps_on, steps-not)
