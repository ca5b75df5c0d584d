use Rattle.values.specs.Contents.{value_bytes}
use Rattle.sheet.specs.Format.{item}
use Rattle.writer.proofs.RowsWritten.{Left}
use Rattle.writer.proofs.write_items.Given as goal

abbrev pub invariant-loop : goal.invariant-loop
invariant-loop l =
    Left (item 1 l.t) (value_bytes 1 l.dialect) l.s l.at l.n l.initial.out l.out l.from l.done l.counter
