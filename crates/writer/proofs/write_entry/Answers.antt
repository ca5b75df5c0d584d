-- `writer::write_entry` meets its contract: the key, the type and the value, one after the other.
-- Assumes nothing.
use Rattle.fields.proofs.Chain.{chain}
use Rattle.writer.proofs.write_entry.Goals as goal

pub returns : goal.returns
returns c = search chain depth 12
