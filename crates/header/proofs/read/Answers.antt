-- `header::read` meets its contract: each stage that refuses ends the run, and past the last one
-- both tables are filled. Assumes nothing.
use Rattle.std.proofs.Common.{rules, Err}
use mathlib.Core.Path.{◌≡◌, refl, sym, ap, ◌∙◌}
use lib.ListN.{length}
use Rattle.reading.specs.Each.{filled}
use Rattle.reading.specs.Reading.{is_accepted, seen}
use Rattle.values.specs.Rows.{entry_row}
use Rattle.tensors.specs.Rows.{tensor_row}
use Rattle.header.specs.Steps.{header_after}
use Rattle.header.proofs.Stages.{Passed, no_start, no_entries, above, no_header, reached}
use Rattle.header.proofs.read.Goals.{In_ok-header}
use Rattle.header.proofs.read.Goals as goal

-- all that is known where a header was told
known : (c : In_ok-header) →
    let a = c.args in
    Passed a.limits (record { entries = length a.entries.now; tensors = length a.tensors.now }) a.cap a.s.now c.in_ok-start.start c.in_ok-start.p c.in_ok-alignment.q c.in_ok-header.header
known c =
    reached _ _ _ _ c.in_ok-start.ensures c.in_ok-alignment.ensures.result_value (c.in_ok-header.ensures ∙ ap (header_after _ _) c.pass_tensors-ended.ensures)

pub pass_tensors-ended-requires : goal.pass_tensors-ended-requires
pass_tensors-ended-requires c = above _ _ _ _ c.in_ok-start.ensures c.in_ok-alignment.ensures.result_value

pub fill-requires-clause-entries_in_bounds : goal.fill-requires-clause-entries_in_bounds
fill-requires-clause-entries_in_bounds c = (known (goal.at.fill-requires-clause-entries_in_bounds c).In_ok-header).room

pub fill-requires-clause-p_value : goal.fill-requires-clause-p_value
fill-requires-clause-p_value c = ap is_accepted (sym (known (goal.at.fill-requires-clause-p_value c).In_ok-header).entries)

pub fill-requires-clause-q_value : goal.fill-requires-clause-q_value
fill-requires-clause-q_value c = ap is_accepted (sym (known (goal.at.fill-requires-clause-q_value c).In_ok-header).tensors)

pub returns-in_err-start : goal.returns-in_err-start
unfolding seen
returns-in_err-start c =
    let up : c.from_residual.result ≡ Err c.in_err-start.field-0.0 = search rules in
    rw (up, no_start _ _ _ _ c.in_err-start.ensures) (record { answer = refl; entry_rows = refl; tensor_rows = refl })

pub returns-in_err-alignment : goal.returns-in_err-alignment
unfolding seen
returns-in_err-alignment c =
    let up : c.from_residual-in_err-alignment.result ≡ Err c.in_err-alignment.field-0.0 = search rules in
    rw (up, no_entries _ _ _ _ c.in_ok-start.ensures c.in_err-alignment.ensures.result_value) (record { answer = refl; entry_rows = refl; tensor_rows = refl })

pub returns-in_err-header : goal.returns-in_err-header
unfolding seen
returns-in_err-header c =
    let up : c.from_residual-in_err-header.result ≡ Err c.in_err-header.field-0.0 = search rules in
    let told = c.in_err-header.ensures ∙ ap (header_after _ _) c.pass_tensors-ended.ensures in
    rw (up, no_header _ _ _ _ c.in_ok-start.ensures c.in_ok-alignment.ensures.result_value told) (record { answer = refl; entry_rows = refl; tensor_rows = refl })

pub returns : goal.returns
unfolding seen
returns c =
    let k = known (goal.at.returns c).In_ok-header in
    rw k.all (record {
      answer = refl;
      entry_rows = c.fill.ensures.entries_after ∙ ap (filled entry_row c.args.entries.now) (sym k.entries);
      tensor_rows = c.fill.ensures.tensors_after ∙ ap (filled tensor_row c.args.tensors.now) (sym k.tensors);
    })
