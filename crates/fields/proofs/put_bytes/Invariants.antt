use mathlib.Core.Path.{◌≡◌}
use mathlib.Core.List.{◌++◌}
use lib.ListN.{drop}
use Rattle.fields.specs.Bytes.{bytes_of}
use Rattle.fields.proofs.Bytes.{rest}
use Rattle.fields.proofs.put_bytes.Given as goal

abbrev pub invariant-loop-i : goal.invariant-loop-i
invariant-loop-i l = rest l.big l.w l.i l.rest l.out ≡ bytes_of l.big l.w l.v ++ drop l.w l.initial.out
