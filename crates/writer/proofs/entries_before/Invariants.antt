use Rattle.writer.proofs.Entries.{Passed}
use Rattle.writer.proofs.entries_before.Given as goal

abbrev pub invariant-loop-i : goal.invariant-loop-i
invariant-loop-i l = Passed l.s l.n l.from l.i
