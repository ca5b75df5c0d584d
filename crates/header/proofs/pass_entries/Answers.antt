-- `header::pass_entries` meets its contract. The invariant: from here and with this alignment, the
-- entries that are left give what all of them do. Assumes nothing.
use Rattle.std.proofs.Common.{rules, Err}
use mathlib.Core.Path.{◌≡◌, sym, ap, ◌∙◌}
use Rattle.reading.specs.Reading.{seen}
use Rattle.reading.specs.Each.{fold}
use Rattle.reading.proofs.Repetition.{times-ends, times-stops, times-seen}
use Rattle.header.specs.Format.{latest}
use Rattle.header.proofs.pass_entries.Goals as goal

pub returns-in_err-entry : goal.returns-in_err-entry
unfolding seen
returns-in_err-entry c =
    let v = c.loop in
    let up : c.from_residual.result ≡ Err c.in_err-entry.field-0.0 = search rules in
    rw up (sym (v.invariant ∙ ap (seen (fold latest v.alignment)) (times-stops _ _ _ _ _ c.loop-test.true c.in_err-entry.ensures)))

pub loop-preserved : goal.loop-preserved
loop-preserved c =
    let v = c.loop in
    rw c.latest-alignment.ensures (v.invariant ∙ times-seen _ _ _ _ _ c.loop-test.true c.in_ok-entry.ensures latest v.alignment)

pub returns : goal.returns
unfolding seen
returns c =
    let v = c.loop in
    sym (v.invariant ∙ ap (seen (fold latest v.alignment)) (times-ends _ _ _ _ _ c.loop-test.false))
