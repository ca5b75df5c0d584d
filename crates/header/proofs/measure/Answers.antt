-- `header::measure` meets its contract: the stages are those of the whole run, whose refusals it
-- hands on, and where all is there it tells the header. Assumes nothing.
use Rattle.std.proofs.Common.{rules, Err}
use mathlib.Core.Path.{◌≡◌, refl, ap, ◌∙◌}
use Rattle.reading.specs.Reading.{seen}
use Rattle.header.specs.Steps.{header_after}
use Rattle.header.proofs.Stages.{no_start, no_entries, above, all_told}
use Rattle.header.proofs.measure.Goals as goal

pub returns-in_err-start : goal.returns-in_err-start
unfolding seen
returns-in_err-start c =
    let up : c.from_residual.result ≡ Err c.in_err-start.field-0.0 = search rules in
    rw (up, no_start _ _ _ _ c.in_err-start.ensures) refl

pub returns-in_err-alignment : goal.returns-in_err-alignment
unfolding seen
returns-in_err-alignment c =
    let up : c.from_residual-in_err-alignment.result ≡ Err c.in_err-alignment.field-0.0 = search rules in
    rw (up, no_entries _ _ _ _ c.in_ok-start.ensures c.in_err-alignment.ensures) refl

pub pass_tensors-ended-requires : goal.pass_tensors-ended-requires
pass_tensors-ended-requires c = above _ _ _ _ c.in_ok-start.ensures c.in_ok-alignment.ensures

pub returns : goal.returns
returns c =
    all_told _ _ _ _ c.in_ok-start.ensures c.in_ok-alignment.ensures _ (c.header_after.ensures ∙ ap (header_after _ _) c.pass_tensors-ended.ensures)
