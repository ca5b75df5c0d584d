-- `plan::header_room` meets its contract: what stands before the records, the added entry with it,
-- then the entries, then the tensors are taken. Assumes nothing.
use Rattle.std.specs.Prelude.{if◌then◌else◌}
use Prim.Native.Nat.{◌+◌}
use mathlib.Core.Path.{◌≡◌}
use Rattle.layout.specs.Layout.{nothing_laid}
use Rattle.values.specs.Format.{size_width}
use Rattle.plan.proofs.Drafts.{entries-there, tensors-there, header_taken}
use Rattle.plan.proofs.header_room.Goals.{Joined-draft, else-draft, then-draft}
use Rattle.plan.proofs.header_room.Goals as goal

-- what the added entry takes
extra : (c : Joined-draft) →
    let a = c.args in
    c.if-draft.added ≡ (if a.draft.adds then size_width a.dialect + 25 else 0)
extra c = (elim c.if-draft.branch [ then-draft w ↦ rw (w.added-is, w.if-draft.true, c.size_width-width.ensures) | else-draft w ↦ rw (w.added-is, w.if-draft.false) ])

pub entries_room-said-requires : goal.entries_room-said-requires
entries_room-said-requires c = entries-there _ c.requires.s_value c.requires.draft_value

pub tensors_room-requires : goal.tensors_room-requires
tensors_room-requires c = tensors-there _ c.requires.s_value c.requires.draft_value

pub returns : goal.returns
returns c =
    λ a adding.
    rw (c.tensors_room.ensures a nothing_laid, c.entries_room-said.ensures, c.take_from-begun.ensures, c.size_width-width.ensures)
    (header_taken _ c.requires.s_value c.requires.draft_value c.args.dialect c.args.room a adding (extra (goal.at.returns c).Joined-draft))
