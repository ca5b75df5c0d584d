use Prim.Native.Nat.{ℕ, ◌-◌}
use mathlib.Core.Path.{◌≡◌}
use mathlib.Core.List.{List, ◌++◌}
use mathlib.Core.Bool.{true}
use lib.ListN.{length, take, drop}
use Rattle.reading.specs.Reading.{run, seen, is_accepted}
use Rattle.reading.specs.Each.{times, fold, filled}
use Rattle.values.specs.Format.{entry}
use Rattle.values.specs.Rows.{entry_row}
use Rattle.values.specs.declared.Dialect.{Dialect}
use Rattle.header.specs.Format.{latest}
use Rattle.header.proofs.list_entries.Given as goal

pub record Listing (s : List ℕ) (at n : ℕ) (dialect : Dialect) (cap : ℕ) (rows₀ rows : List (List ℕ)) (from aligned i : ℕ) : Type 0 where
  pub long : length rows ≡ n
  pub told : seen (fold latest 32) (run (times n (entry dialect cap)) s at) ≡ seen (fold latest aligned) (run (times (n - i) (entry dialect cap)) s from)
  pub all : is_accepted (run (times n (entry dialect cap)) s at) ≡ true → is_accepted (run (times (n - i) (entry dialect cap)) s from) ≡ true
  pub left : is_accepted (run (times n (entry dialect cap)) s at) ≡ true
      → filled entry_row rows₀ (run (times n (entry dialect cap)) s at) ≡ take i rows ++ filled entry_row (drop i rows) (run (times (n - i) (entry dialect cap)) s from)

abbrev pub invariant-loop-row : goal.invariant-loop-row
invariant-loop-row l = Listing l.s l.at l.n l.dialect l.cap l.initial.row-items l.row-items l.from l.aligned l.row-index
