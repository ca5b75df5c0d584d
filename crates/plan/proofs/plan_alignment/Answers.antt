-- `plan::plan_alignment` meets its contract: what the sheet says of the alignment is what its
-- entries say. Assumes nothing.
use mathlib.Core.Bool.{true, false}
use mathlib.Core.Path.{◌≡◌, sym, ap, ◌∙◌}
use Rattle.sheet.specs.Sheet.{sheet_of}
use Rattle.plan.specs.declared.Draft.{Draft}
use Rattle.plan.specs.Header.{own_alignment, adds, records_in}
use Rattle.plan.proofs.Drafts.{entries-there, entries-got}
use Rattle.plan.proofs.Tests.{other-said, same-said, said_default, cannot_add, can-add, drafted, said-adds, must-add, need-not-add}
use Rattle.plan.proofs.plan_alignment.Goals.{in-Some+else-said-alignment, in-None, else-adds-via-then-adds+else-alignment-gt4294967295, else-adds-via-else-adds}
use Rattle.plan.proofs.plan_alignment.Goals as goal

pub own_alignment-requires : goal.own_alignment-requires
own_alignment-requires c = entries-there _ c.requires.s_value c.requires.draft_value

pub returns-then-said-alignment : goal.returns-then-said-alignment
returns-then-said-alignment c =
    let a = c.args in
    let says = ap own_alignment (entries-got a.s.now c.requires.s_value c.requires.draft_value) in
    other-said a.dialect a.alignment a.room (records_in (sheet_of a.s.now)) c.if-alignment-eq0.false c.if-alignment-ne0.false (c.in-Some.ensures ∙ says) c.if-said-alignment.true

pub returns-then-alignment-gt4294967295 : goal.returns-then-alignment-gt4294967295
returns-then-alignment-gt4294967295 c =
    let a = c.args in
    let says = ap own_alignment (entries-got a.s.now c.requires.s_value c.requires.draft_value) in
    elim c.match-own_alignment.branch [
      | in-Some+else-said-alignment w ↦ (let z : false ≡ true = cc in absurd (cc))
      | in-None w ↦ cannot_add a.dialect a.alignment a.room (records_in (sheet_of a.s.now)) c.if-alignment-eq0.false c.if-alignment-ne0.false (w.in-None.ensures ∙ says) (must-add a.alignment (sym w.adds-is ∙ c.if-adds.true)) c.if-alignment-gt4294967295.true
    ]

pub plan_tensors-requires-clause-draft_value : goal.plan_tensors-requires-clause-draft_value
plan_tensors-requires-clause-draft_value c =
    let a = c.args in
    let r = records_in (sheet_of a.s.now) in
    let says = ap own_alignment (entries-got a.s.now c.requires.s_value c.requires.draft_value) in
    let adding = c.match-own_alignment.adds in
    let told : adds a.alignment (own_alignment r.entries) ≡ adding = elim c.match-own_alignment.branch [
      | in-Some+else-said-alignment w ↦ said-adds a.dialect a.alignment a.room r (w.in-Some.ensures ∙ says) ∙ sym w.adds-is
      | in-None w ↦ ap (adds a.alignment) (sym (w.in-None.ensures ∙ says)) ∙ sym w.adds-is
    ]
    in
    drafted a.dialect a.alignment a.room r (ap (λ (d : Draft). record { entries = d.entries; tensors = d.tensors; first = d.first; adds = adding }) c.requires.draft_value) told

pub returns : goal.returns
returns c =
    let a = c.args in
    let r = records_in (sheet_of a.s.now) in
    let says = ap own_alignment (entries-got a.s.now c.requires.s_value c.requires.draft_value) in
    c.plan_tensors.ensures
    ∙ elim c.match-own_alignment.branch [
      | in-Some+else-said-alignment w ↦ same-said a.dialect a.alignment a.room r c.if-alignment-eq0.false c.if-alignment-ne0.false (w.in-Some.ensures ∙ says) w.if-said-alignment.false
      | in-None w ↦ elim c.else-adds.branch [
        | else-adds-via-then-adds+else-alignment-gt4294967295 v ↦ can-add a.dialect a.alignment a.room r c.if-alignment-eq0.false c.if-alignment-ne0.false (w.in-None.ensures ∙ says) (must-add a.alignment (sym w.adds-is ∙ v.if-adds.true)) v.if-alignment-gt4294967295.false
        | else-adds-via-else-adds v ↦ said_default a.dialect a.alignment a.room r c.if-alignment-eq0.false c.if-alignment-ne0.false (w.in-None.ensures ∙ says) (need-not-add a.alignment (sym w.adds-is ∙ v.if-adds.false))
      ]
    ]
