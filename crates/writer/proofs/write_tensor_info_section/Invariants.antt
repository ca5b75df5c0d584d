use Rattle.reading.specs.Back.{got, bytes_of_all}
use Rattle.reading.specs.Each.{times}
use Rattle.reading.specs.Reading.{run}
use Rattle.layout.specs.Layout.{nothing_laid}
use Rattle.tensors.specs.Contents.{tensor_bytes}
use Rattle.sheet.specs.Format.{tensor}
use Rattle.plan.specs.Header.{laid_from}
use Rattle.writer.proofs.Tensors.{Going}
use Rattle.writer.proofs.write_tensor_info_section.Given as goal

abbrev pub invariant-loop : goal.invariant-loop
invariant-loop l =
    Going l.dialect l.alignment l.s l.m l.initial.out l.out l.done l.from l.laid l.counter (bytes_of_all (tensor_bytes l.dialect) (laid_from l.alignment nothing_laid (got (run (times l.m tensor) l.s l.first))))
