-- `lookup::seek_tensor` meets its contract. The invariant: from here, with this total, the search
-- through the tensors that are left comes to what the whole search does. Assumes nothing.
use Rattle.std.proofs.Common.{rules, Err, None}
use mathlib.Core.Path.{◌≡◌, sym, ap, ◌∙◌}
use native.Mathlib.Omega.{arith}
use Rattle.reading.specs.Ceilings.{full}
use Rattle.reading.specs.Reading.{accepted, run}
use Rattle.tensors.specs.Format.{total_of}
use Rattle.tensors.proofs.TensorMarks.{under-tensor}
use Rattle.tensors.proofs.Totals.{total-fits}
use Rattle.lookup.specs.Tensors.{looked_tensor, searched, tensor_found, has_name}
use Rattle.lookup.proofs.KeysInside.{name-inside}
use Rattle.lookup.proofs.LookedTensor.{looked-tensor}
use Rattle.lookup.proofs.SeekLaws.{shows_read, shows_refused, seek-ends, seek-stops, seek-asked, seek-other}
use Rattle.lookup.proofs.seek_tensor.Goals.{After-is_key}
use Rattle.lookup.proofs.seek_tensor.Goals as goal

-- the tensor that was read, and whether its name is the one
looked : (c : After-is_key) →
    let a = c.args in
    accepted (record { what = c.in_ok-tensor.tensor; asked = has_name a.name.now a.s.now c.in_ok-tensor.tensor }) c.in_ok-tensor.next
    ≡ run (looked_tensor a.name.now a.dialect c.loop-passed.total) a.s.now c.loop-passed.from
looked c =
    let a = c.args in
    shows_read (λ u. record { what = u; asked = has_name a.name.now a.s.now u }) (looked-tensor a.name.now a.dialect c.loop-passed.total a.s.now c.loop-passed.from)
    (c.in_ok-tensor.ensures ∙ under-tensor full (omega arith) _ _ _ _)

pub returns-in_err-tensor : goal.returns-in_err-tensor
returns-in_err-tensor c =
    let a = c.args in
    let v = c.loop-passed in
    let up : c.from_residual.result ≡ Err c.in_err-tensor.field-0.0 = search rules in
    let f = shows_refused _ (looked-tensor a.name.now a.dialect v.total a.s.now v.from) (c.in_err-tensor.ensures ∙ under-tensor full (omega arith) _ _ _ _) in
    rw up (sym (ap tensor_found (v.invariant ∙ seek-stops (looked_tensor a.name.now a.dialect) total_of _ _ _ _ v.total c.loop-passed-test.true f)))

pub is_key-requires : goal.is_key-requires
is_key-requires c = name-inside _ _ _ _ (c.in_ok-tensor.ensures ∙ under-tensor full (omega arith) _ _ _ _)

pub returns-then-is_key : goal.returns-then-is_key
returns-then-is_key c =
    let a = c.args in
    sym (ap tensor_found (c.loop-passed.invariant ∙ seek-asked (looked_tensor a.name.now a.dialect) total_of _ _ _ _ c.loop-passed.total c.loop-passed-test.true (looked (goal.at.returns-then-is_key c).After-is_key) (sym c.is_key.ensures ∙ c.if-is_key.true)))

pub overflow_add-total : goal.overflow_add-total
overflow_add-total c = record { fits = omega (arith, total-fits _ _ _ _ _ c.in_ok-tensor.ensures) }

pub loop-passed-preserved : goal.loop-passed-preserved
loop-passed-preserved c =
    let a = c.args in
    c.loop-passed.invariant ∙ seek-other (looked_tensor a.name.now a.dialect) total_of _ _ _ _ c.loop-passed.total c.loop-passed-test.true (looked (goal.at.loop-passed-preserved c).After-is_key) (sym c.is_key.ensures ∙ c.if-is_key.false)

pub returns : goal.returns
returns c =
    let a = c.args in
    let v = c.loop-passed in
    let end : v.passed ≡ a.n = omega arith in
    sym (ap tensor_found (v.invariant ∙ seek-ends (looked_tensor a.name.now a.dialect) total_of _ _ _ _ v.total c.loop-passed-test.false) ∙ ap (searched None) end)
