-- `fields::eight_in` meets its contract: two little-endian halves, and where big says
-- so the two turned round, each and with the other. Assumes nothing.
use Rattle.std.proofs.Common.{rules}
use Prim.Native.Nat.{ℕ, ◌+◌, ◌%◌, ◌/◌, ◌≤◌, ◌<◌}
use mathlib.Core.Path.{sym, ap, ◌∙◌}
use mathlib.Core.Bool.{true, false}
use native.Mathlib.Omega.{arith}
use lib.ListN.{length, get_or}
use Rattle.fields.specs.Value.{value}
use Rattle.fields.specs.Bytes.{bytes_of}
use Rattle.fields.proofs.Numbers.{value-halves}
use Rattle.fields.proofs.Swaps.{turned-four, low_half, high_half}
use Rattle.fields.proofs.eight_in.Goals as goal

pub returns-then-big : goal.returns-then-big
returns-then-big c =
    let a = c.args in
    let first = c.four_in-first in
    let second = c.four_in-second in
    let bytes : (i : ℕ) → get_or a.s.now i 0 < 256 = λ i. search rules in
    let whole : a.at + 4 + 4 ≤ length a.s.now = omega arith in
    let low = ap (λ v. v % 4294967296) c.joined-v.ensures ∙ low_half first.result second.result (omega arith) ∙ first.ensures in
    let high = ap (λ v. v / 4294967296) c.joined-v.ensures ∙ high_half first.result second.result (omega arith) ∙ second.ensures in
    let one = c.turned-low.ensures ∙ ap (λ v. value true (bytes_of false 4 v)) low ∙ turned-four a.s.now bytes a.at (omega arith) in
    let two = c.turned-high.ensures ∙ ap (λ v. value true (bytes_of false 4 v)) high ∙ turned-four a.s.now bytes (a.at + 4) whole in
    rw (c.if-big.true, one, two) (sym (value-halves a.s.now a.at 4 whole true))

pub returns-else-big : goal.returns-else-big
returns-else-big c =
    let a = c.args in
    rw (c.if-big.false, value-halves a.s.now a.at 4 (omega arith) false, ← c.four_in-first.ensures, ← c.four_in-second.ensures) c.joined-v.ensures
