use lib.ListN.{drop}
use Rattle.reading.specs.Back.{bytes_of_all}
use Rattle.listing.specs.Text.{tensor_line}
use Rattle.text_out.proofs.Writing.{Writing}
use Rattle.listing.proofs.put_tensors.Given as goal

abbrev pub invariant-loop-row : goal.invariant-loop-row
invariant-loop-row l =
    Writing (bytes_of_all (tensor_line l.s) l.tensors) (bytes_of_all (tensor_line l.s) (drop l.row-index l.tensors)) l.initial.out l.out l.n
