use Rattle.values.specs.Contents.{entry_bytes}
use Rattle.plan.specs.Header.{entry_in}
use Rattle.sheet.specs.Format.{metadata}
use Rattle.writer.proofs.RowsWritten.{Left}
use Rattle.writer.proofs.write_entries.Given as goal

abbrev pub invariant-loop : goal.invariant-loop
invariant-loop l =
    Left metadata (λ e. entry_bytes l.dialect (entry_in e)) l.s l.at l.n l.initial.out l.out l.from l.done l.counter
