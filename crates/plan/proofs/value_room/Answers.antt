-- `plan::value_room` meets its contract: a text has a size before it, a scalar has none, and an
-- array is measured by itself. Assumes nothing.
use mathlib.Core.Path.{ap, ◌∙◌}
use Rattle.sheet.proofs.PartsFound.{onward}
use Rattle.sheet.proofs.BackFromAnswers.{step_yes}
use Rattle.plan.specs.Steps.{taken_from}
use Rattle.plan.proofs.Rooms.{taken_twice}
use Rattle.plan.proofs.ValueLengths.{text-size, scalar_size, value-is-array}
use Rattle.sheet.specs.Steps.{step_of}
use Rattle.plan.proofs.value_room.Goals as goal

pub array_room-requires : goal.array_room-requires
array_room-requires c = c.requires ∙ ap step_of (value-is-array _ _ _ _ c.if-form-eq9.true)

pub returns-then-form-eq9 : goal.returns-then-form-eq9
returns-then-form-eq9 c = rw (value-is-array _ _ _ _ c.if-form-eq9.true) c.array_room.ensures

pub overflow_sub-len : goal.overflow_sub-len
overflow_sub-len c = onward _ _ _ (step_yes _ c.requires).is

pub returns-then-form-eq8 : goal.returns-then-form-eq8
returns-then-form-eq8 c =
    rw (c.take_from-then-form-eq8.ensures, c.take_from.ensures, c.size_width.ensures)
    (taken_twice _ _ _ ∙ ap (taken_from c.args.room) (text-size _ c.args.dialect _ c.requires c.if-form-eq8.true))

pub returns : goal.returns
returns c =
    c.take_from-2.ensures ∙ ap (taken_from c.args.room) (scalar_size _ c.args.dialect _ c.requires c.if-form-eq8.false c.if-form-eq9.false)
