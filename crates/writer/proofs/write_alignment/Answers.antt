-- `writer::write_alignment` meets its contract: a key, a type and a number, one after the other.
-- Assumes nothing.
use Rattle.fields.proofs.Chain.{chain}
use Rattle.values.specs.Contents.{entry_bytes, value_bytes}
use Rattle.scalars.specs.Scalars.{scalar_width}
use Rattle.writer.proofs.write_alignment.Goals as goal

pub returns-clause-wrote : goal.returns-clause-wrote
unfolding entry_bytes value_bytes scalar_width
returns-clause-wrote c = search chain depth 12
