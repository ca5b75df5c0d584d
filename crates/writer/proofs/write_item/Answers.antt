-- `writer::write_item` meets its contract: a scalar or a text is what is there, and is written as
-- such. Assumes nothing.
use Rattle.std.specs.Prelude.{Some}
use Prim.Native.Nat.{◌+◌}
use mathlib.Core.Path.{ap, ◌∙◌}
use native.Mathlib.Omega.{arith}
use Rattle.reading.specs.Reading.{run}
use Rattle.values.specs.Contents.{text_bytes}
use Rattle.sheet.specs.Format.{item}
use Rattle.sheet.proofs.SheetItems.{has_width, item-scalar}
use Rattle.writer.proofs.RowsWritten.{wrote_as}
use Rattle.writer.proofs.ValuesWritten.{ScalarSaid, scalar-said, ItemText, item_no, item_yes}
use Rattle.writer.proofs.write_item.Goals.{In-Some, In-Some-text_at}
use Rattle.writer.proofs.write_item.Goals as goal

-- the scalar that is there
scalars : (c : In-Some) →
    let a = c.args in
    ScalarSaid 0 a.dialect a.t a.s.now a.at (run (item 1 a.t) a.s.now a.at)
scalars c =
    let a = c.args in
    scalar-said 0 a.dialect a.t a.s.now a.at (run (item 1 a.t) a.s.now a.at)
    (item-scalar a.s.now a.at 0 a.t (has_width c.in-Some.width a.t c.in-Some.ensures))
    c.requires.at_value

-- the text that is there
texts : (c : In-Some-text_at) →
    let a = c.args in
    ItemText a.dialect a.t a.s.now a.at c.in-Some-text_at.span c.in-Some-text_at.next
texts c =
    let a = c.args in
    item_yes a.dialect a.t a.s.now a.at c.in_default.ensures c.requires.at_value c.in-Some-text_at.ensures

pub write_scalar-written-requires-clause-at_value : goal.write_scalar-written-requires-clause-at_value
write_scalar-written-requires-clause-at_value c =
    (scalars (goal.at.write_scalar-written-requires-clause-at_value c).In-Some).there

pub write_scalar-written-requires-clause-t_in_bounds : goal.write_scalar-written-requires-clause-t_in_bounds
write_scalar-written-requires-clause-t_in_bounds c =
    rw (scalars (goal.at.write_scalar-written-requires-clause-t_in_bounds c).In-Some).size at c.requires.at_in_bounds

pub overflow_add-result : goal.overflow_add-result
overflow_add-result c = omega (arith, (scalars (goal.at.overflow_add-result c).In-Some).inside, c.write_scalar-written.ensures.value)

pub returns-in-Some-clause-wrote : goal.returns-in-Some-clause-wrote
returns-in-Some-clause-wrote c =
    wrote_as (scalars (goal.at.returns-in-Some-clause-wrote c).In-Some).bytes c.write_scalar-written.ensures.wrote

pub returns-in-Some-clause-next_value : goal.returns-in-Some-clause-next_value
returns-in-Some-clause-next_value c =
    let a = c.args in
    ap (λ n. Some (a.at + n)) c.write_scalar-written.ensures.value ∙ (scalars (goal.at.returns-in-Some-clause-next_value c).In-Some).ends

pub returns-in_default-text_at-clause-wrote : goal.returns-in_default-text_at-clause-wrote
returns-in_default-text_at-clause-wrote c =
    let a = c.args in
    absurd (item_no a.dialect a.t a.s.now a.at c.in_default.ensures c.requires.at_value c.in_default-text_at.ensures)

pub returns-in_default-text_at-clause-next_value : goal.returns-in_default-text_at-clause-next_value
returns-in_default-text_at-clause-next_value c =
    let a = c.args in
    absurd (item_no a.dialect a.t a.s.now a.at c.in_default.ensures c.requires.at_value c.in_default-text_at.ensures)

pub write_string-written-requires : goal.write_string-written-requires
write_string-written-requires c =
    rw c.inside.ensures (rw (texts (goal.at.write_string-written-requires c).In-Some-text_at).size at c.requires.at_in_bounds)

pub returns-clause-wrote : goal.returns-clause-wrote
returns-clause-wrote c =
    let a = c.args in
    let x = texts (goal.at.returns-clause-wrote c).In-Some-text_at in
    wrote_as (ap (text_bytes a.dialect) c.inside.ensures ∙ x.bytes) c.write_string-written.ensures.wrote

pub returns-clause-next_value : goal.returns-clause-next_value
returns-clause-next_value c = (texts (goal.at.returns-clause-next_value c).In-Some-text_at).ends
