-- What `tensor_records::fill` keeps: the first i records are those of the first i rows, and the
-- others are as they were.
use Rattle.std.proofs.Common.{◌≡◌, take}
use Rattle.tensor_records.specs.Records.{filled_from}
use Rattle.tensor_records.proofs.fill.Given as goal

abbrev pub invariant-loop-i : goal.invariant-loop-i
invariant-loop-i l = l.records ≡ filled_from l.fn.records (take l.i l.rows)
