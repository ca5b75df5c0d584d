-- What the plan's private steps are held to: the tests of plan_for from one of them on, and what is
-- left of a room. No contract of a public function cites it.
use Rattle.std.specs.Prelude.{ℕ, ◌-◌, map, [], leb, length, if◌then◌else◌, Option, Some, None}
use Rattle.reading.specs.Replies.{Reply, gives, refuses}
use Rattle.plan.specs.declared.Plan.{Plan}
use Rattle.reading.specs.Choice.{require}
use Rattle.layout.specs.Layout.{layout_of}
use Rattle.values.specs.declared.Dialect.{Dialect}
use Rattle.sheet.specs.Sheet.{Records}
use Rattle.plan.specs.Header.{own_alignment, entries_of, piece_of, start_of}
use Rattle.plan.specs.Plan.{can_add, agrees, laid_of, require_laid, counts_fit, plan_of}
use Rattle.header.specs.Format.{is_alignment_lem}
use Rattle.reading.specs.Reading.{Answer, accepted, refused}
use Rattle.values.specs.Contents.{ValueContent, a_text}

-- the test of the room
abbrev pub roomed : Dialect → ℕ → ℕ → Records → Reply Plan
roomed k a room c = require (leb (start_of k a c) room) (refuses 38 0) (gives (plan_of k a c))

-- the tests of the tensors and of the counts, before it
abbrev pub laid : Dialect → ℕ → ℕ → Records → Reply Plan
laid k a room c =
    require_laid (laid_of (layout_of a (map piece_of c.tensors)))
    (require (counts_fit k (length (entries_of a c.entries)) (length c.tensors)) (refuses 37 0) (roomed k a room c))

-- the tests of the alignment, before those
abbrev pub aligned : Dialect → ℕ → ℕ → Records → Reply Plan
aligned k a room c =
    require (is_alignment_lem a) (refuses 32 0)
    (require (can_add a (own_alignment c.entries)) (refuses 33 0)
    (require (agrees a (own_alignment c.entries)) (refuses 34 0)
    (laid k a room c)))

-- what is left of a room when n bytes are taken from it
unfoldable pub taken_from : Option ℕ → ℕ → Option ℕ
taken_from (Some room) n = if leb n room then Some (room - n) else None
taken_from None n = None

-- what a value says; of none, nothing
abbrev pub content_read : {I : Type 0} → Answer (ValueContent I) → ValueContent I
content_read (accepted c q) = c
content_read (refused n p) = a_text []
