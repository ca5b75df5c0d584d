-- `text_in::number_in` meets its contract: at each turn the digits that are left make the whole
-- number of the one so far. Assumes nothing.
use Prim.Native.Nat.{◌+◌}
use mathlib.Core.Path.{◌≡◌, sym, ap, ◌∙◌}
use lib.ListN.{drop, get_or}
use native.Mathlib.Omega.{arith}
use Rattle.std.proofs.Common.{inl, inr}
use Rattle.std.proofs.lemmas.Bool.Decides.{nat_tests}
use Rattle.text_in.specs.Decimal.{with_digit, number_from}
use Rattle.text_in.proofs.Digits.{no_text, some-text, digits-end, digit_below, digit_above, digit_over, digit_on}
use Rattle.text_in.proofs.number_in.Goals as goal

pub returns-then-is_empty : goal.returns-then-is_empty
returns-then-is_empty c = sym (no_text _ (grind (arith, nat_tests)))

pub loop-b-init : goal.loop-b-init
loop-b-init c = some-text _ (grind (arith, nat_tests))

pub returns-then-not-is_ascii_digit : goal.returns-then-not-is_ascii_digit
returns-then-not-is_ascii_digit c =
    let l = c.loop-b in
    let t = c.args.text.now in
    sym (l.invariant ∙ elim c.if-not-is_ascii_digit.ensures.cases [
      | inl h ↦ digit_below l.n t l.b-index c.loop-b-test.true h
      | inr h ↦ digit_above l.n t l.b-index c.loop-b-test.true (omega arith) h
    ])

pub returns-in_err-checked_mul : goal.returns-in_err-checked_mul
returns-in_err-checked_mul c =
    let d = c.if-not-is_ascii_digit.ensures.cases in
    c.from_residual.ensures ∙ sym (c.loop-b.invariant ∙ digit_over _ _ _ c.loop-b-test.true d.0 d.1 (omega arith))

pub returns-in_err-n : goal.returns-in_err-n
returns-in_err-n c =
    let d = c.if-not-is_ascii_digit.ensures.cases in
    c.from_residual-in_err-n.ensures ∙ sym (c.loop-b.invariant ∙ digit_over _ _ _ c.loop-b-test.true d.0 d.1 (omega arith))

pub loop-b-preserved : goal.loop-b-preserved
loop-b-preserved c =
    let l = c.loop-b in
    let d = c.if-not-is_ascii_digit.ensures.cases in
    let t = c.args.text.now in
    let e : with_digit l.n (get_or t l.b-index 0) ≡ c.in_ok-n.n = omega arith in
    l.invariant ∙ digit_on l.n t l.b-index c.loop-b-test.true d.0 d.1 (omega arith) ∙ ap (λ n. number_from n (drop (l.b-index + 1) t)) e

pub returns : goal.returns
returns c =
    let l = c.loop-b in
    sym (l.invariant ∙ digits-end l.n c.args.text.now l.b-index (omega arith))
