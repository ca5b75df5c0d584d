-- `tensors::read_tensor` meets its contract: what must fit of what was read is judged without a
-- byte, and whatever the ceilings. Assumes nothing.
use Rattle.reading.specs.Reading.{run, here, and_then}
use Rattle.reading.specs.Ceilings.{under}
use Rattle.reading.proofs.CeilingLaws.{run-under}
use Rattle.tensors.specs.Format.{tensor}
use Rattle.values.proofs.ValueMarks.{under-text}
use Rattle.tensors.proofs.TensorMarks.{under-shape}
use Rattle.tensors.proofs.Fitting.{judged}
use Rattle.tensors.proofs.read_tensor.Goals as goal

pub returns : goal.returns
unfolding tensor here under run and_then
returns c =
    rw (run-under, run-under, under-text, ← c.in_ok-name.ensures, run-under, under-shape, ← c.in_ok-shape.ensures, run-under, ← c.in_ok-stored.ensures, judged) c.fitting_tensor.ensures
