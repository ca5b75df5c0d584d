use Prim.Native.Nat.{ℕ, ◌-◌}
use mathlib.Core.Path.{◌≡◌}
use mathlib.Core.List.{List, ◌++◌}
use mathlib.Core.Bool.{true}
use lib.ListN.{length, take, drop}
use Rattle.reading.specs.Reading.{run, is_accepted}
use Rattle.reading.specs.Each.{each, filled}
use Rattle.tensors.specs.Format.{tensor, total_of}
use Rattle.tensors.specs.Rows.{tensor_row}
use Rattle.values.specs.declared.Dialect.{Dialect}
use Rattle.header.proofs.fill_tensors.Given as goal

pub record Filling (s : List ℕ) (at n : ℕ) (dialect : Dialect) (rows₀ rows : List (List ℕ)) (from i : ℕ) : Type 0 where
  pub long : length rows ≡ n
  pub total : ℕ
  pub all : is_accepted (run (each (tensor dialect) total_of (n - i) total) s from) ≡ true
  pub left : filled tensor_row rows₀ (run (each (tensor dialect) total_of n 0) s at) ≡ take i rows ++ filled tensor_row (drop i rows) (run (each (tensor dialect) total_of (n - i) total) s from)

abbrev pub invariant-loop-row : goal.invariant-loop-row
invariant-loop-row l = Filling l.s l.at l.n l.dialect l.initial.row-items l.row-items l.from l.row-index
