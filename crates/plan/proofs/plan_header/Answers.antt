-- `plan::plan_header` meets its contract: the form is tested first, then the sheet, and then the
-- tests that need its records. Assumes nothing.
use mathlib.Core.Path.{◌≡◌, sym, ◌∙◌}
use Rattle.std.proofs.Common.{rules, of_calls}
use Rattle.std.proofs.lemmas.Result.{err_from_is_err_and}
use Rattle.reading.specs.declared.Reason.TheVariants.{BadSheet}
use Rattle.sheet.specs.Sheet.{sheet_of}
use Rattle.plan.proofs.Mapped.{mapped-ok, mapped-err}
use Rattle.plan.proofs.Tests.{form_unknown, not-formed, well_formed, counted}
use Rattle.plan.proofs.plan_header.Goals as goal

pub returns-then-not-is_known : goal.returns-then-not-is_known
returns-then-not-is_known c =
    let a = c.args in
    form_unknown a.dialect a.alignment a.room a.s.now (sym c.is_known.ensures ∙ c.if-not-is_known.true)

pub returns-in_err-counts : goal.returns-in_err-counts
returns-in_err-counts c =
    let a = c.args in
    let p = err_from_is_err_and c.from_residual.result c.from_residual.ensures.1 in
    let m = mapped-err c.check.result c.map_err.result _ c.map_err.ensures.cases c.in_err-counts.was in
    let h : c.in_err-counts.field-0.0 ≡ record { why = BadSheet; place = m.0 } = search (rules, of_calls, m.2) in
    rw (p.1, p.2, h) (not-formed a.dialect a.alignment a.room a.s.now (sym c.is_known.ensures ∙ c.if-not-is_known.false) (sym m.1 ∙ c.check.ensures))

pub returns : goal.returns
returns c =
    let a = c.args in
    let m = mapped-ok c.check.result c.map_err.result _ c.map_err.ensures.cases c.in_ok-counts.was in
    c.plan_alignment.ensures
    ∙ well_formed a.dialect a.alignment a.room a.s.now (sym c.is_known.ensures ∙ c.if-not-is_known.false) (counted (sheet_of a.s.now) (sym m ∙ c.check.ensures)).0
