-- `writer::write_tensor_info` meets its contract: the name, the shape, and the kind with the
-- offset, one after the other. Assumes nothing.
use Rattle.fields.proofs.Chain.{chain}
use Rattle.tensors.specs.Contents.{tensor_bytes}
use Rattle.writer.proofs.write_tensor_info.Goals as goal

pub returns-clause-wrote : goal.returns-clause-wrote
unfolding tensor_bytes
returns-clause-wrote c = search chain depth 12
