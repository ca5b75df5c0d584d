-- `layout::place` meets its contract where the size is refused: a kind that is written is known, so
-- the refusal is of the tests that the definition makes too. Assumes nothing.
use mathlib.Core.Path.{◌≡◌, sym, ◌∙◌}
use mathlib.Core.Bool.{true}
use native.Mathlib.Omega.{arith}
use Rattle.kinds.specs.Table.{written_kind}
use Rattle.kinds.proofs.KindTable.{written_known}
use Rattle.kinds.proofs.Answers.{unsized}
use Rattle.layout.proofs.Places.{not-sized}
use Rattle.layout.proofs.place.Goals as goal

pub returns-in_err-product : goal.returns-in_err-product
returns-in_err-product c =
    let a = c.args in
    let written : written_kind a.kind ≡ true = sym c.is_written.ensures ∙ c.if-not-is_written.false in
    let r = not-sized a.alignment a.laid a.shape a.kind written (unsized _ _ (written_known _ written) c.in_err-product.ensures) in
    grind (arith, r)
