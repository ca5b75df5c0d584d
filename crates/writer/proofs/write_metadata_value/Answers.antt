-- `writer::write_metadata_value` meets its contract: a scalar, an array or a text is what is there,
-- and is written as such. Assumes nothing.
use Prim.Native.Nat.{suc, ◌≤◌}
use mathlib.Core.Path.{◌≡◌, sym, ap, subst, ◌∙◌}
use native.Mathlib.Omega.{arith}
use lib.ListN.{length}
use Rattle.reading.specs.Reading.{run, is_accepted}
use Rattle.values.specs.Contents.{value_bytes}
use Rattle.values.specs.Format.{depth}
use Rattle.sheet.specs.Format.{array, item, value}
use Rattle.sheet.proofs.SheetItems.{has_width, value-scalar, value-array}
use Rattle.sheet.proofs.BackFromAnswers.{step_there}
use Rattle.writer.proofs.RowsWritten.{wrote_as}
use Rattle.writer.proofs.ValuesWritten.{ScalarSaid, scalar-said, ValueText, value-said}
use Rattle.plan.specs.Steps.{content_read}
use Rattle.writer.proofs.write_metadata_value.Goals.{Else-form-eq9, In-Some, Then-form-eq9}
use Rattle.writer.proofs.write_metadata_value.Goals as goal

-- the scalar that is there
scalars : (c : In-Some) →
    let a = c.args in
    ScalarSaid depth a.dialect a.form a.s.now a.at (run (value a.end a.form) a.s.now a.at)
scalars c =
    let a = c.args in
    let r = run (value a.end a.form) a.s.now a.at in
    scalar-said depth a.dialect a.form a.s.now a.at r
    (value-scalar a.s.now a.at a.end a.form (has_width c.in-Some.width a.form c.in-Some.ensures))
    (step_there r c.requires.end_value)

arrays : (c : Then-form-eq9) →
    let a = c.args in
    run (value a.end a.form) a.s.now a.at ≡ run (array depth (item depth)) a.s.now a.at
arrays c =
    let a = c.args in
    rw c.if-form-eq9.true (value-array a.s.now a.at a.end)

texts : (c : Else-form-eq9) →
    let a = c.args in
    ValueText a.dialect a.end a.form a.s.now a.at
texts c =
    let a = c.args in
    value-said a.dialect a.end a.form a.s.now a.at c.in_default.ensures c.if-form-eq9.false c.requires.end_value

pub write_scalar-requires-clause-at_value : goal.write_scalar-requires-clause-at_value
write_scalar-requires-clause-at_value c =
    let x = scalars (goal.at.write_scalar-requires-clause-at_value c).In-Some in
    x.there

pub write_scalar-requires-clause-t_in_bounds : goal.write_scalar-requires-clause-t_in_bounds
write_scalar-requires-clause-t_in_bounds c =
    let x = scalars (goal.at.write_scalar-requires-clause-t_in_bounds c).In-Some in
    rw x.size at c.requires.at_in_bounds

pub write_array_payload-requires-clause-at_value : goal.write_array_payload-requires-clause-at_value
write_array_payload-requires-clause-at_value c =
    let a = c.args in
    let e = arrays (goal.at.write_array_payload-requires-clause-at_value c).Then-form-eq9 in
    ap is_accepted (sym e) ∙ step_there (run (value a.end a.form) a.s.now a.at) c.requires.end_value

pub write_array_payload-requires-clause-at_in_bounds : goal.write_array_payload-requires-clause-at_in_bounds
write_array_payload-requires-clause-at_in_bounds c =
    let a = c.args in
    let e = arrays (goal.at.write_array_payload-requires-clause-at_in_bounds c).Then-form-eq9 in
    subst (λ r. length (value_bytes (suc depth) a.dialect (content_read r)) ≤ length a.out.now) e c.requires.at_in_bounds

pub returns-then-form-eq9 : goal.returns-then-form-eq9
returns-then-form-eq9 c =
    let a = c.args in
    wrote_as (ap (λ r. value_bytes (suc depth) a.dialect (content_read r)) (sym (arrays (goal.at.returns-then-form-eq9 c).Then-form-eq9))) c.write_array_payload.ensures.wrote

pub slice_bounds-write_string-count : goal.slice_bounds-write_string-count
slice_bounds-write_string-count c = (texts (goal.at.slice_bounds-write_string-count c).Else-form-eq9).low

pub slice_bounds-write_string-start : goal.slice_bounds-write_string-start
slice_bounds-write_string-start c = let x = texts (goal.at.slice_bounds-write_string-start c).Else-form-eq9 in omega (arith, x.low, x.high)

pub slice_bounds-write_string-end : goal.slice_bounds-write_string-end
slice_bounds-write_string-end c = let x = texts (goal.at.slice_bounds-write_string-end c).Else-form-eq9 in omega (arith, x.low, x.high)

pub write_string-requires : goal.write_string-requires
write_string-requires c =
    rw (texts (goal.at.write_string-requires c).Else-form-eq9).size at c.requires.at_in_bounds

pub returns-in-Some : goal.returns-in-Some
returns-in-Some c = wrote_as (scalars (goal.at.returns-in-Some c).In-Some).bytes c.write_scalar.ensures.wrote

pub returns : goal.returns
returns c = wrote_as (texts (goal.at.returns c).Else-form-eq9).bytes c.write_string.ensures.wrote
