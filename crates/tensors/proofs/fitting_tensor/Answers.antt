-- `tensors::fitting_tensor` meets its contract: the four tests in the order of the definition.
-- Assumes nothing.
use Prim.Native.Nat.{◌+◌, ◌*◌, ◌≤◌, ◌<◌}
use mathlib.Core.Path.{◌≡◌, sym, ◌∙◌}
use mathlib.Core.Bool.{true}
use Rattle.std.specs.Prelude.{Some, Err}
use Rattle.std.proofs.Common.{rules}
use lib.Dec.{leb}
use Rattle.kinds.specs.Shape.{greatest, whole_blocks, bounded_product}
use Rattle.kinds.specs.Table.{block_of}
use Rattle.reading.specs.declared.Reason.TheVariants as reasons
use Rattle.tensors.specs.Format.{lengths}
use Rattle.tensors.proofs.Fitting.{no_whole, no_product, no_size, no_total, all-fits}
use Rattle.tensors.proofs.fitting_tensor.Goals.{Else-not-fits, Else-not-whole_blocks, In_ok-parameters}
use Rattle.tensors.proofs.fitting_tensor.Goals as goal

-- the first length is whole blocks, the product that was answered, and that its bytes fit
whole : (c : Else-not-whole_blocks) →
    let a = c.args in
    true ≡ whole_blocks a.shape.first a.stored.kind
whole c = sym (c.if-not-whole_blocks.false) ∙ c.whole_blocks.ensures

product : (c : In_ok-parameters) → Some c.in_ok-parameters.parameters ≡ bounded_product (lengths c.args.shape)
product c = sym c.in_ok-parameters.ensures.ok_part ∙ c.product.ensures

bytes : (c : Else-not-fits) →
    true ≡ leb (c.in_ok-parameters.parameters * (block_of c.args.stored.kind).bytes) greatest
bytes c = sym (c.if-not-fits.false) ∙ c.fits.ensures

pub returns-then-not-whole_blocks : goal.returns-then-not-whole_blocks
returns-then-not-whole_blocks c =
    let a = c.args in
    let r : c.refusal.result ≡ record { why = reasons.PartialBlock; place = a.at } = search rules in
    rw r (no_whole a.at a.total a.name a.shape a.stored a.next (sym (c.if-not-whole_blocks.true) ∙ c.whole_blocks.ensures))

pub returns-in_err-parameters : goal.returns-in_err-parameters
returns-in_err-parameters c =
    let a = c.args in
    let r : c.refusal-2.result ≡ record { why = reasons.ProductOverflow; place = a.at } = search rules in
    let w : c.from_residual.result ≡ Err (record { why = reasons.ProductOverflow; place = a.at }) = search rules in
    rw w (no_product a.at a.total a.name a.shape a.stored a.next (whole (goal.at.returns-in_err-parameters c).Else-not-whole_blocks) (sym c.in_err-parameters.ensures.ok_part ∙ c.product.ensures))

pub returns-then-not-fits : goal.returns-then-not-fits
returns-then-not-fits c =
    let a = c.args in
    let r : c.refusal-then-not-fits.result ≡ record { why = reasons.SizeOverflow; place = a.at } = search rules in
    rw r (no_size a.at a.total a.name a.shape a.stored a.next (whole (goal.at.returns-then-not-fits c).Else-not-whole_blocks) (product (goal.at.returns-then-not-fits c).In_ok-parameters) (sym (c.if-not-fits.true) ∙ c.fits.ensures))

pub returns-then-is_none : goal.returns-then-is_none
returns-then-is_none c =
    let a = c.args in
    let r : c.refusal-then-is_none.result ≡ record { why = reasons.TotalOverflow; place = a.at } = search rules in
    let over : greatest < a.total + c.in_ok-parameters.parameters = search rules in
    rw r (no_total a.at a.total a.name a.shape a.stored a.next (whole (goal.at.returns-then-is_none c).Else-not-whole_blocks) (product (goal.at.returns-then-is_none c).In_ok-parameters) (bytes (goal.at.returns-then-is_none c).Else-not-fits) over)

pub returns : goal.returns
returns c =
    let a = c.args in
    let within : a.total + c.in_ok-parameters.parameters ≤ greatest = search rules in
    all-fits a.at a.total a.name a.shape a.stored a.next (whole (goal.at.returns c).Else-not-whole_blocks) (product (goal.at.returns c).In_ok-parameters) (bytes (goal.at.returns c).Else-not-fits) within c.known_size.ensures
