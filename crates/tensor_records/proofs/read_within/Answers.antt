-- `tensor_records::read_within` meets its contract: `header::read` fills the part that it
-- is lent, and so the table (`part-read`). Assumes nothing.
use Rattle.tensor_records.proofs.Within.{part-read}
use Rattle.tensor_records.proofs.read_within.Goals as goal

pub returns-clause-rows_after : goal.returns-clause-rows_after
returns-clause-rows_after c =
    let a = c.args in
    let e = c.min-end in
    let h = c.read in (part-read a.limits a.cap a.entries.now a.rows.now a.s.now a.room e.result e.ensures h.result h.ensures.answer h.ensures.entry_rows h.ensures.tensor_rows).1.1
