-- `fields::comes_before` meets its contract where the fronts of eight bytes decide. Assumes nothing.
use Rattle.std.proofs.Common.{rules}
use Prim.Native.Nat.{ℕ, ◌≤◌, ◌<◌}
use mathlib.Core.Path.{◌≡◌, sym, ◌∙◌}
use mathlib.Core.Bool.{true}
use native.Mathlib.Omega.{arith}
use lib.Dec.{ltb}
use lib.ListN.{length, take, drop, get_or}
use lib.Seq.{length-take-le}
use Rattle.std.proofs.lemmas.List.{take-append-drop}
use Rattle.fields.specs.Order.{before}
use Rattle.fields.specs.Value.{value}
use Rattle.fields.proofs.Fronts.{fronts_decide}
use Rattle.fields.proofs.Swaps.{field_of_bytes}
use Rattle.fields.proofs.comes_before.Goals as goal

pub returns-then-first-second : goal.returns-then-first-second
returns-then-first-second c =
    let a = c.args.a.now in
    let b = c.args.b.now in
    let la : 8 ≤ length a = omega (arith, c.if-a-lt8.false) in
    let lb : 8 ≤ length b = omega (arith, c.if-b-lt8.false) in
    let fa : (i : ℕ) → get_or a i 0 < 256 = λ i. search rules in
    let fb : (i : ℕ) → get_or b i 0 < 256 = λ i. search rules in
    let decided = fronts_decide (take 8 a) (take 8 b) (drop 8 a) (drop 8 b) (length-take-le 8 a la ∙ sym (length-take-le 8 b lb)) (field_of_bytes a fa 0 7 la) (field_of_bytes b fb 0 7 lb) (λ e. omega (arith, e, c.eight_in-first.ensures, c.eight_in-second.ensures, c.if-first-second.true)) in
    let told : before a b ≡ ltb (value true (take 8 a)) (value true (take 8 b)) = rw (take-append-drop 8 a, take-append-drop 8 b) at decided in
    rw (c.eight_in-first.ensures, c.eight_in-second.ensures) (sym told)
