-- `text_out::spell` meets its contract. The invariant: the digits that are left, and those that
-- stand from this place on, are all digits. Assumes nothing.
use Prim.Native.Nat.{suc, ◌-◌}
use mathlib.Core.Path.{◌≡◌, sym, ◌∙◌}
use native.Mathlib.Omega.{arith}
use Rattle.text_out.specs.Words.{decimal}
use Rattle.text_out.proofs.Digits.{digits_more, no_digits, one_digit, digits-end}
use Rattle.text_out.proofs.spell.Goals as goal

pub loop-at-preserved : goal.loop-at-preserved
loop-at-preserved c =
    let l = c.loop-at in
    let e : suc (l.at - 1) ≡ l.at = omega arith in
    rw (← e) at l.invariant ∙ digits_more (l.at - 1) l.rest l.places (omega arith) (omega arith)

pub returns-then-rest-lt10-clause-places_after : goal.returns-then-rest-lt10-clause-places_after
unfolding decimal
returns-then-rest-lt10-clause-places_after c =
    let l = c.loop-at in
    let e : suc (l.at - 1) ≡ l.at = omega arith in
    digits-end (l.at - 1) l.rest l.places (omega arith) (one_digit (l.at - 1) l.rest (omega arith)) ∙ sym (rw (← e) at l.invariant)

pub returns-clause-places_after : goal.returns-clause-places_after
unfolding decimal
returns-clause-places_after c =
    let l = c.loop-at in
    sym (l.invariant ∙ no_digits l.at l.rest l.places (omega arith))
