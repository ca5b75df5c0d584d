-- `fetch_listing::put_record` meets its contract: the test chooses between the word and the number.
-- Assumes nothing.
use borrow.Author.Tests.{eq-eqb, ne_eqb}
use Rattle.fetch_listing.specs.Text.{record_end}
use Rattle.fetch_listing.proofs.put_record.Goals as goal

pub returns-then-number-eq-NEVER : goal.returns-then-number-eq-NEVER
unfolding record_end
returns-then-number-eq-NEVER c = rw (eq-eqb _ _ c.if-number-eq-NEVER.true) c.put_text.ensures

pub returns-else-number-eq-NEVER : goal.returns-else-number-eq-NEVER
unfolding record_end
returns-else-number-eq-NEVER c = rw (ne_eqb _ _ c.if-number-eq-NEVER.false) c.put_line_end.ensures
