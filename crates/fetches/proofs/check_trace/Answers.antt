-- `fetches::check_trace` meets its contract: at each turn the records that are left answer what the
-- whole trace does. Assumes nothing.
use mathlib.Core.Path.{◌≡◌, sym, ap, ◌∙◌}
use native.Mathlib.Omega.{arith}
use Prim.Native.Nat.{◌^◌, ◌≤◌, ◌<◌}
use borrow.Author.Tests.{eqb-true, eqb-false}
use Rattle.std.proofs.lemmas.Grind.{common_steps}
use Rattle.fetches.specs.Trace.{fetch_at, fetch_end}
use Rattle.fetches.proofs.Records.{rest_end, rest-cut, rest-long, rest_far, rest-on, no_version, other-version, version-one, first_byte}
use Rattle.fetches.proofs.check_trace.Goals.{then-is_empty-via-then-is_empty, then-is_empty-via-else-is_empty+then-trace-ne1, then-trace-at-lt20-via-then-trace-at-lt20, then-trace-at-lt20-via-else-trace-at-lt20+then-value_in-ne16}
use Rattle.fetches.proofs.check_trace.Goals as goal

pub returns-then-is_empty : goal.returns-then-is_empty
returns-then-is_empty c =
    let s = c.args.trace.now in
    elim c.then-is_empty.branch [
      | then-is_empty-via-then-is_empty w ↦ sym (no_version s (eqb-true _ _ (sym c.is_empty.ensures ∙ w.if-is_empty.true)))
      | then-is_empty-via-else-is_empty+then-trace-ne1 w ↦
          let some = eqb-false _ _ (sym c.is_empty.ensures ∙ w.if-is_empty.false) in
          sym (other-version s (omega arith) (λ e. w.if-trace-ne1.true (sym (first_byte s (omega arith)) ∙ e)))
    ]

pub loop-at-init : goal.loop-at-init
loop-at-init c =
    let s = c.args.trace.now in
    let some = eqb-false _ _ (sym c.is_empty.ensures ∙ c.if-is_empty.false) in
    version-one s (omega arith) (first_byte s (omega arith) ∙ c.if-trace-ne1.false)

pub returns-then-trace-at-lt20 : goal.returns-then-trace-at-lt20
returns-then-trace-at-lt20 c =
    let s = c.args.trace.now in
    elim c.then-trace-at-lt20.branch [
      | then-trace-at-lt20-via-then-trace-at-lt20 w ↦ sym (c.loop-at.invariant ∙ rest-cut s _ c.loop-at-test.true w.if-trace-at-lt20.true)
      | then-trace-at-lt20-via-else-trace-at-lt20+then-value_in-ne16 w ↦
          sym (c.loop-at.invariant ∙ rest-long _ _ c.loop-at-test.true (omega (arith, w.if-trace-at-lt20.false)) (λ e. w.if-value_in-ne16.true (w.value_in.ensures ∙ e)))
    ]

pub returns-then-is_none : goal.returns-then-is_none
returns-then-is_none c =
    let s = c.args.trace.now in
    let at = c.loop-at.at in
    let end : fetch_end c.fetch_in-f.result ≡ fetch_end (fetch_at s at) = ap fetch_end c.fetch_in-f.ensures in
    let far : 2 ^ 64 ≤ fetch_end c.fetch_in-f.result = grind (arith, common_steps) in
    sym (c.loop-at.invariant ∙ rest_far s at c.loop-at-test.true (omega arith) (sym c.value_in.ensures ∙ c.if-value_in-ne16.false) (omega arith))

pub loop-at-preserved : goal.loop-at-preserved
loop-at-preserved c =
    let s = c.args.trace.now in
    let at = c.loop-at.at in
    let end : fetch_end c.fetch_in-f.result ≡ fetch_end (fetch_at s at) = ap fetch_end c.fetch_in-f.ensures in
    let near : fetch_end c.fetch_in-f.result < 2 ^ 64 = grind (arith, common_steps) in
    c.loop-at.invariant ∙ rest-on s at c.loop-at-test.true (omega arith) (sym c.value_in.ensures ∙ c.if-value_in-ne16.false) (omega arith)

pub returns-else-trace-ne1 : goal.returns-else-trace-ne1
returns-else-trace-ne1 c =
    let s = c.args.trace.now in
    sym (c.loop-at.invariant ∙ rest_end s _ c.loop-at-test.false)

pub returns-else-is_none : goal.returns-else-is_none
returns-else-is_none c =
    let s = c.args.trace.now in
    let at = c.loop-at.at in
    let end : fetch_end c.fetch_in-f.result ≡ fetch_end (fetch_at s at) = ap fetch_end c.fetch_in-f.ensures in
    let near : fetch_end c.fetch_in-f.result < 2 ^ 64 = grind (arith, common_steps) in
    sym (c.loop-at.invariant ∙ rest-on s at c.loop-at-test.true (omega arith) (sym c.value_in.ensures ∙ c.if-value_in-ne16.false) (omega arith) ∙ rest_end s _ (omega arith))
