-- `header::list_entries` meets its contract. The invariant: the entries that are left give what all
-- of them do; and where all are there, the rows before the next are written, and those that are left
-- give the rest. Assumes nothing.
use Prim.Native.Nat.{◌≤◌, ◌<◌}
use Rattle.std.proofs.Common.{rules, Err}
use mathlib.Core.Path.{◌≡◌, sym, ap, ◌∙◌}
use mathlib.Core.List.{◌++◌}
use native.Mathlib.Omega.{arith}
use lib.ListN.{length-set, drop}
use Rattle.reading.specs.Reading.{seen}
use Rattle.reading.specs.Each.{fold}
use Rattle.reading.proofs.Repetition.{times-ends, times-stops, times-seen, times-never, times-accepted, times-filled, times-last}
use Rattle.values.specs.Format.{entry}
use Rattle.values.specs.Rows.{entry_row}
use Rattle.header.specs.Format.{latest}
use Rattle.header.proofs.KeptRows.{front}
use Rattle.header.proofs.list_entries.Goals as goal

pub returns-in_err-entry-clause-result_value : goal.returns-in_err-entry-clause-result_value
unfolding seen
returns-in_err-entry-clause-result_value c =
    let v = c.loop-row in
    let below : v.row-index < c.args.n = omega arith in
    let up : c.from_residual.result ≡ Err c.in_err-entry.field-0.0 = search rules in
    rw up (sym (v.invariant.told ∙ ap (seen (fold latest v.aligned)) (times-stops _ _ _ _ _ below c.in_err-entry.ensures)))

pub returns-in_err-entry-clause-rows_after : goal.returns-in_err-entry-clause-rows_after
returns-in_err-entry-clause-rows_after c =
    let v = c.loop-row in
    let below : v.row-index < c.args.n = omega arith in
    λ a. absurd (times-never _ _ _ _ _ below c.in_err-entry.ensures (v.invariant.all a))

pub loop-row-preserved : goal.loop-row-preserved
loop-row-preserved c =
    let v = c.loop-row in
    let below : v.row-index < c.args.n = omega arith in
    let e = c.in_ok-entry.ensures in
    record {
      long = simp length-set v.invariant.long;
      told = rw c.latest-aligned.ensures (v.invariant.told ∙ times-seen _ _ _ _ _ below e latest v.aligned);
      all = λ a. times-accepted _ _ _ _ _ below e (v.invariant.all a);
      left = λ a. rw c.entry_row.ensures (v.invariant.left a ∙ times-filled _ _ _ _ _ below e (v.invariant.all a) entry_row _ (omega arith));
    }

pub returns-clause-result_value : goal.returns-clause-result_value
unfolding seen
returns-clause-result_value c =
    let v = c.loop-row in
    let past : c.args.n ≤ v.row-index = omega arith in
    sym (v.invariant.told ∙ ap (seen (fold latest v.aligned)) (times-ends _ _ _ _ _ past))

pub returns-clause-rows_after : goal.returns-clause-rows_after
returns-clause-rows_after c =
    let a = c.args in
    let v = c.loop-row in
    let past : a.n ≤ v.row-index = omega arith in
    λ all. sym (ap (λ x. x ++ drop a.n a.rows.now) (v.invariant.left all ∙ times-last _ _ _ _ _ entry_row v.row-items past))
    ∙ front entry_row (λ z. entry a.dialect a.cap) (λ z x. z) a.n tt a.s.now a.at a.rows.now
