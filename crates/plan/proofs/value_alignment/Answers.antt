-- `plan::value_alignment` meets its contract: only a scalar can give an alignment, and what was
-- read is its bits. Assumes nothing.
use Rattle.plan.proofs.ValueLengths.{says_nothing, scalar-there, says-scalar}
use Rattle.plan.proofs.value_alignment.Goals as goal

pub returns-in_default : goal.returns-in_default
returns-in_default c =
    says_nothing _ c.args.end c.args.form _ c.requires c.in_default.ensures

pub returns-in_default-number_at : goal.returns-in_default-number_at
returns-in_default-number_at c =
    absurd (scalar-there _ c.args.end c.args.form _ c.requires c.in-Some.width c.in-Some.ensures c.in_default-number_at.ensures)

pub returns : goal.returns
returns c =
    rw (says-scalar _ c.args.end c.args.form _ c.requires c.in-Some.width c.in-Some.ensures c.in-Ok.ensures, c.alignment_of.ensures, c.scalar_of.ensures)
