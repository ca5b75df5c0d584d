-- `writer::entries_before` meets its contract. The invariant: those passed, with those of the
-- others that come before, are all that do. Assumes nothing.
use mathlib.Core.Path.{◌≡◌, sym, ap, ◌∙◌}
use Rattle.fields.specs.Order.{before}
use Rattle.values.specs.Format.{alignment_key}
use Rattle.sheet.specs.Format.{metadata}
use Rattle.sheet.proofs.BackFromAnswers.{next-there}
use Rattle.writer.proofs.Entries.{EntryThere, entry-there, passed_here, passed-turn, passed-end}
use Rattle.writer.proofs.entries_before.Goals.{After-comes_before}
use Rattle.writer.proofs.entries_before.Goals as goal

-- whether the alignment's key comes before its own
ahead : (c : After-comes_before) →
    let x : EntryThere c.args.s.now c.loop-i.from c.known_entry-next.result.0 c.known_entry-next.result.1 = entry-there _ _ c.known_entry-next.ensures in
    before alignment_key x.what.content.key ≡ c.comes_before.result
ahead c =
    let x : EntryThere c.args.s.now c.loop-i.from c.known_entry-next.result.0 c.known_entry-next.result.1 = entry-there _ _ c.known_entry-next.ensures in
    ap (before alignment_key) (sym (c.inside.ensures ∙ x.key)) ∙ sym c.comes_before.ensures

pub known_entry-next-requires : goal.known_entry-next-requires
known_entry-next-requires c = next-there metadata _ _ _ _ c.loop-i-test.true c.loop-i.invariant.all

pub returns-then-comes_before : goal.returns-then-comes_before
returns-then-comes_before c =
    let x : EntryThere c.args.s.now c.loop-i.from c.known_entry-next.result.0 c.known_entry-next.result.1 = entry-there _ _ c.known_entry-next.ensures in
    passed_here _ _ c.loop-i.invariant c.loop-i-test.true x.is (ahead (goal.at.returns-then-comes_before c).After-comes_before ∙ c.if-comes_before.true)

pub loop-i-preserved : goal.loop-i-preserved
loop-i-preserved c =
    let x : EntryThere c.args.s.now c.loop-i.from c.known_entry-next.result.0 c.known_entry-next.result.1 = entry-there _ _ c.known_entry-next.ensures in
    passed-turn _ _ c.loop-i.invariant c.loop-i-test.true x.is (ahead (goal.at.loop-i-preserved c).After-comes_before ∙ c.if-comes_before.false)

pub returns : goal.returns
returns c = passed-end _ _ c.loop-i.invariant c.loop-i-test.false
