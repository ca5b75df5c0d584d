-- `plan::plan_tensors` meets its contract: the tensors of the sheet are those that were laid, and
-- the counts are those of the header. Assumes nothing.
use mathlib.Core.Path.{sym, ap, ◌∙◌}
use mathlib.Core.List.{map}
use Rattle.std.proofs.lemmas.Result.{err_from_is_err_and}
use Rattle.layout.specs.Layout.{layout_of}
use Rattle.sheet.specs.Sheet.{sheet_of}
use Rattle.plan.specs.Header.{piece_of, records_in}
use Rattle.plan.specs.Plan.{laid_of}
use Rattle.plan.proofs.Drafts.{tensors-there, tensors-got}
use Rattle.plan.proofs.Tests.{not-laid, too_many, few-enough}
use Rattle.plan.proofs.plan_tensors.Goals as goal

pub lay_tensors-requires : goal.lay_tensors-requires
lay_tensors-requires c = tensors-there _ c.requires.s_value c.requires.draft_value

pub returns-in_err-lay_tensors : goal.returns-in_err-lay_tensors
returns-in_err-lay_tensors c =
    let a = c.args in
    let p = err_from_is_err_and c.from_residual.result c.from_residual.ensures.1 in
    let same = ap (λ l. laid_of (layout_of a.alignment (map piece_of l))) (tensors-got a.s.now c.requires.s_value c.requires.draft_value) in
    rw (p.1, p.2) (not-laid a.dialect a.alignment a.room (records_in (sheet_of a.s.now)) (c.in_err-lay_tensors.ensures ∙ same))

pub returns-then-not-counts_fit : goal.returns-then-not-counts_fit
returns-then-not-counts_fit c =
    let a = c.args in
    let same = ap (λ l. laid_of (layout_of a.alignment (map piece_of l))) (tensors-got a.s.now c.requires.s_value c.requires.draft_value) in
    too_many a.dialect a.alignment a.room (records_in (sheet_of a.s.now)) (c.in_ok-lay_tensors.ensures ∙ same) c.requires.draft_value (sym c.counts_fit.ensures ∙ c.if-not-counts_fit.true)

pub returns : goal.returns
returns c =
    let a = c.args in
    let same = ap (λ l. laid_of (layout_of a.alignment (map piece_of l))) (tensors-got a.s.now c.requires.s_value c.requires.draft_value) in
    c.plan_room.ensures
    ∙ few-enough a.dialect a.alignment a.room (records_in (sheet_of a.s.now)) (c.in_ok-lay_tensors.ensures ∙ same) c.requires.draft_value (sym c.counts_fit.ensures ∙ c.if-not-counts_fit.false)
