use lib.ListN.{length, drop}
use Rattle.text_out.proofs.Writing.{Writing}
use Rattle.fetch_listing.specs.Text.{record_lines}
use Rattle.fetch_listing.proofs.put_lines.Given as goal

abbrev pub invariant-loop-row : goal.invariant-loop-row
invariant-loop-row l =
    Writing (record_lines l.s l.tensors l.answers) (record_lines l.s (drop (length l.yielded) l.tensors) (drop (length l.yielded) l.answers)) l.initial.out l.out l.n
