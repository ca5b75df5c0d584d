-- The measures of the cycle: depth + depth for an array, and one more for arrays. The loop: what is
-- written, and the arrays that are left, are all the arrays.
use Prim.Native.Nat.{suc, ◌+◌}
use Rattle.values.specs.Contents.{value_bytes}
use Rattle.sheet.specs.Format.{array, item}
use Rattle.writer.proofs.RowsWritten.{Left}
use Rattle.writer.proofs.+arrays.Given as goal

abbrev pub decreases-write_array_payload : goal.decreases-write_array_payload
decreases-write_array_payload l = l.depth + l.depth

abbrev pub decreases-write_arrays : goal.decreases-write_arrays
decreases-write_arrays l = l.depth + l.depth + 1

abbrev pub invariant-write_arrays-loop : goal.invariant-write_arrays-loop
invariant-write_arrays-loop l =
    Left (array l.depth (item l.depth)) (value_bytes (suc l.depth) l.dialect) l.s l.at l.n l.initial.out l.out l.from l.done l.counter
