-- `writer::write_tensor_info_section` meets its contract: each turn writes the tensor that stands
-- next in the sheet at the next offset, and a tensor that can't be laid was refused before. Assumes
-- nothing.
use Prim.Native.Nat.{◌+◌, ◌≤◌}
use mathlib.Core.Path.{sym}
use native.Mathlib.Omega.{arith}
use lib.ListN.{length, length-take, length-drop}
use Rattle.reading.specs.Reading.{run}
use Rattle.values.specs.Format.{size_width}
use Rattle.values.specs.Contents.{inside_of}
use Rattle.sheet.specs.Format.{SheetTensor, tensor}
use Rattle.sheet.proofs.BackFromAnswers.{Shows, tensor_no, tensor_yes}
use Rattle.writer.proofs.Tensors.{going_none, going_end, never-refused, going_room, going_on}
use Rattle.writer.specs.Steps.{shape_size}
use Rattle.writer.proofs.write_tensor_info_section.Goals.{In-Some}
use Rattle.writer.proofs.write_tensor_info_section.Goals as goal

-- the tensor that stands next
found : (c : In-Some) →
    let a = c.args in
    Shows (λ (t : SheetTensor). t.parts) c.in-Some.parts c.in-Some.next (run tensor a.s.now c.loop.from)
found c =
    let a = c.args in
    tensor_yes (run tensor a.s.now c.loop.from) c.in-Some.ensures

-- there is room for it
room : (c : In-Some) →
    let a = c.args in
    let l = c.loop in
    let x = c.in-Some.parts in
    l.done + (size_width a.dialect + length (inside_of a.s.now x.name) + shape_size x.shape.dimensions + 12) ≤ length l.out
room c =
    let f = found c in
    going_room _ _ _ _ c.loop.invariant c.loop-test.true f.is _ f.told c.requires.first_in_bounds

pub returns-in_default : goal.returns-in_default
returns-in_default c =
    let a = c.args in
    let l = c.loop in
    let r = tensor_no (run tensor a.s.now l.from) c.in_default.ensures in
    absurd (going_none _ _ _ _ l.invariant c.loop-test.true r.is)

pub returns-in_default-lay : goal.returns-in_default-lay
returns-in_default-lay c =
    let f = found (goal.at.returns-in_default-lay c).In-Some in
    let l = c.loop in
    absurd (never-refused _ _ _ _ l.invariant c.loop-test.true f.is _ f.told (sym c.in_default-lay.ensures))

pub write_laid_tensor-done-requires : goal.write_laid_tensor-done-requires
write_laid_tensor-done-requires c = simp (length-take, length-drop) (omega (arith, room (goal.at.write_laid_tensor-done-requires c).In-Some))

pub loop-preserved : goal.loop-preserved
loop-preserved c =
    let f = found (goal.at.loop-preserved c).In-Some in
    let w = c.write_laid_tensor-done in
    going_on _ _ _ _ c.loop.invariant c.loop-test.true f.is _ f.told (sym c.in-Ok.ensures) _ _ w.ensures.wrote w.auto.out

pub returns : goal.returns
returns c = going_end _ _ _ _ c.loop.invariant (omega arith)
