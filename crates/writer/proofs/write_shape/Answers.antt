-- `writer::write_shape` meets its contract: the count, and a length for each of the four places,
-- two at a time. Assumes nothing.
use Rattle.fields.proofs.Chain.{chain}
use mathlib.Core.List.{◌++◌, append_assoc}
use mathlib.Core.Path.{◌≡◌}
use Rattle.values.specs.declared.Dialect.{Dialect}
use Rattle.tensors.specs.declared.Shape.{Shape}
use Rattle.values.specs.Contents.{type_bytes}
use Rattle.tensors.specs.Contents.{length_bytes, shape_bytes}
use Rattle.writer.proofs.RowsWritten.{wrote_as}
use Rattle.writer.proofs.write_shape.Goals as goal

-- the lengths in pairs
in_pairs : (k : Dialect) (x : Shape) →
    let n = x.dimensions in
    type_bytes k n ++ (length_bytes k n 0 x.first ++ length_bytes k n 1 x.second) ++ (length_bytes k n 2 x.third ++ length_bytes k n 3 x.fourth) ≡ shape_bytes k x
unfolding shape_bytes
in_pairs k x = simp append_assoc

pub returns-clause-wrote : goal.returns-clause-wrote
returns-clause-wrote c = wrote_as (in_pairs _ _) (search chain depth 12)
