-- `plan::plan_room` meets its contract: what the header leaves tells where it ends, and the padding
-- of that is the start. Assumes nothing.
use Prim.Native.Nat.{◌-◌, ◌<◌}
use mathlib.Core.Path.{◌≡◌, sym, ap, subst, ◌∙◌}
use native.Mathlib.Omega.{arith}
use Rattle.std.proofs.lemmas.Result.{err_from_is_err_and}
use borrow.Author.Tests.{leb-false}
use lib.Dec.{leb}
use Rattle.reading.proofs.Sames.{same_err}
use Rattle.kinds.specs.Shape.{greatest}
use Rattle.kinds.proofs.Products.{answered, refused}
use Rattle.layout.specs.Padding.{padded}
use Rattle.sheet.specs.Sheet.{sheet_of}
use Rattle.plan.specs.declared.Draft.{Draft}
use Rattle.plan.specs.Header.{records_in, end_of, start_of}
use Rattle.plan.proofs.Drafts.{padded-not-below, left_taken, over_taken, no_room, enough-room}
use Rattle.plan.proofs.plan_room.Goals as goal

pub returns-in_err-left : goal.returns-in_err-left
returns-in_err-left c =
    let a = c.args in
    let p = err_from_is_err_and c.from_residual.result c.from_residual.ensures.1 in
    let none = c.in_err-left.ensures.ok_part in
    let why = same_err _ _ (rw none at c.in_err-left.ensures.value) in
    let past = over_taken (sym none ∙ c.header_room.ensures a.alignment (ap (λ (d : Draft). d.adds) c.requires.draft_value)) in
    let k = records_in (sheet_of a.s.now) in
    rw (p.1, p.2, why) (no_room a.dialect a.alignment a.room k (omega (arith, past, padded-not-below a.alignment (end_of a.dialect a.alignment k))))

pub overflow_sub-end : goal.overflow_sub-end
overflow_sub-end c =
    let a = c.args in
    (left_taken (sym c.in_ok-left.ensures.ok_part ∙ c.header_room.ensures a.alignment (ap (λ (d : Draft). d.adds) c.requires.draft_value))).less

pub returns-in_err-start : goal.returns-in_err-start
returns-in_err-start c =
    let a = c.args in
    let taken = left_taken (sym c.in_ok-left.ensures.ok_part ∙ c.header_room.ensures a.alignment (ap (λ (d : Draft). d.adds) c.requires.draft_value)) in
    let n = a.room - c.in_ok-left.left in
    let p = err_from_is_err_and c.from_residual-in_err-start.result c.from_residual-in_err-start.ensures.1 in
    let none = c.in_err-start.ensures.ok_part in
    let why = same_err _ _ (rw none at c.in_err-start.ensures.value) in
    let over = refused (leb (padded a.alignment n) greatest) (padded a.alignment n) (sym none ∙ c.pad.ensures) in
    let past : greatest < start_of a.dialect a.alignment (records_in (sheet_of a.s.now)) = subst (λ y. greatest < padded a.alignment y) taken.back (leb-false _ _ over) in
    rw (p.1, p.2, why) (no_room a.dialect a.alignment a.room (records_in (sheet_of a.s.now)) (omega (arith, past, c.ranges.room)))

pub returns-then-room-start : goal.returns-then-room-start
returns-then-room-start c =
    let a = c.args in
    let taken = left_taken (sym c.in_ok-left.ensures.ok_part ∙ c.header_room.ensures a.alignment (ap (λ (d : Draft). d.adds) c.requires.draft_value)) in
    let n = a.room - c.in_ok-left.left in
    let started : c.in_ok-start.start ≡ start_of a.dialect a.alignment (records_in (sheet_of a.s.now)) = sym (answered (leb (padded a.alignment n) greatest) (padded a.alignment n) (sym c.in_ok-start.ensures.ok_part ∙ c.pad.ensures)).1 ∙ ap (padded a.alignment) taken.back in
    no_room a.dialect a.alignment a.room (records_in (sheet_of a.s.now)) (subst (λ y. a.room < y) started c.if-room-start.true)

pub returns : goal.returns
returns c =
    let a = c.args in
    let taken = left_taken (sym c.in_ok-left.ensures.ok_part ∙ c.header_room.ensures a.alignment (ap (λ (d : Draft). d.adds) c.requires.draft_value)) in
    let n = a.room - c.in_ok-left.left in
    let started : c.in_ok-start.start ≡ start_of a.dialect a.alignment (records_in (sheet_of a.s.now)) = sym (answered (leb (padded a.alignment n) greatest) (padded a.alignment n) (sym c.in_ok-start.ensures.ok_part ∙ c.pad.ensures)).1 ∙ ap (padded a.alignment) taken.back in
    enough-room a.dialect a.alignment a.room (records_in (sheet_of a.s.now)) c.requires.draft_value taken.back started c.if-room-start.false
