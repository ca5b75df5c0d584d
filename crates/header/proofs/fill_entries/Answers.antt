-- `header::fill_entries` meets its contract: a copy of the rows that were kept, or all of them read
-- once more. Assumes nothing.
use mathlib.Core.Path.{◌∙◌}
use native.Mathlib.Omega.{arith}
use Rattle.values.specs.Format.{entry}
use Rattle.values.specs.Rows.{entry_row}
use Rattle.header.proofs.KeptRows.{copied}
use Rattle.header.proofs.fill_entries.Goals as goal

pub returns-then-n-kept : goal.returns-then-n-kept
returns-then-n-kept c =
    let a = c.args in
    c.copy_rows.ensures ∙ copied entry_row (entry a.dialect a.cap) a.n a.s.now a.at a.kept.now a.rows.now c.requires.at_value (c.requires.keeps (omega arith))
