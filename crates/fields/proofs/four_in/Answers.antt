-- `fields::four_in` meets its contract: its bytes one by one as a little-endian number, turned
-- round where big says so. Assumes nothing.
use Rattle.std.proofs.Common.{rules}
use mathlib.Core.Path.{◌≡◌, sym, ap, ◌∙◌}
use mathlib.Core.Bool.{true, false}
use native.Mathlib.Omega.{arith}
use lib.ListN.{take, drop}
use Rattle.fields.specs.Value.{le_value, value}
use Rattle.fields.specs.Bytes.{bytes_of}
use Rattle.fields.proofs.Numbers.{field-bytes}
use Rattle.fields.proofs.Swaps.{turned-four}
use Rattle.fields.proofs.four_in.Goals as goal

pub returns-then-big : goal.returns-then-big
returns-then-big c =
    let a = c.args in
    let stored : c.four-v.result ≡ le_value (take 4 (drop a.at a.s.now)) =
    c.four-v.ensures ∙ ap le_value (sym (field-bytes a.s.now a.at 3 (omega arith))) in
    rw c.if-big.true (c.turned.ensures ∙ ap (λ v. value true (bytes_of false 4 v)) stored ∙ turned-four a.s.now (λ i. search rules) a.at (omega arith))
