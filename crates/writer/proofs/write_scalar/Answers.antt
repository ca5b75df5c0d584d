-- `writer::write_scalar` meets its contract: the number that is read is the scalar's, and is
-- written at its width. Assumes nothing.
use Rattle.writer.proofs.Scalars.{scalar-none, scalar-some}
use Rattle.writer.proofs.write_scalar.Goals as goal

pub returns-in_default-clause-value : goal.returns-in_default-clause-value
returns-in_default-clause-value c =
    let a = c.args in
    let p = c.requires in
    absurd (scalar-none a.t a.s.now a.at p.at_value (rw p.width_value at c.in_default.ensures))

pub returns-in_default-clause-wrote : goal.returns-in_default-clause-wrote
returns-in_default-clause-wrote c =
    let a = c.args in
    let p = c.requires in
    absurd (scalar-none a.t a.s.now a.at p.at_value (rw p.width_value at c.in_default.ensures))

pub returns-clause-wrote : goal.returns-clause-wrote
returns-clause-wrote c =
    let a = c.args in
    let p = c.requires in
    rw (← p.width_value, scalar-some a.t a.s.now a.at p.at_value (rw p.width_value at c.in-Ok.ensures)) c.put_number.ensures.wrote
