-- `writer::write_start` meets its contract: magic and version, and then both counts, one after the
-- other. Assumes nothing.
use Rattle.fields.proofs.Chain.{chain}
use Rattle.start.specs.Contents.{start_bytes}
use Rattle.values.specs.Contents.{type_bytes}
use Rattle.writer.proofs.write_start.Goals as goal

pub returns-clause-wrote : goal.returns-clause-wrote
unfolding start_bytes type_bytes
returns-clause-wrote c = search chain depth 12
