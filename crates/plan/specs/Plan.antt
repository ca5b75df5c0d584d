-- Whether a sheet can be written: the tests in their order. The refusals:
--   30  a version other than 1, 2 and 3, or one in which a file can't have this byte order
--   31  a sheet that is not well formed, at its first bad entry
--   32  an alignment that is 0 or no multiple of 8
--   33  an alignment above 2 ^ 32 - 1 that must be added
--   34  a sheet that says another alignment itself
--   35, 17, 13, 14, 15, 36  a tensor that can't be laid, with its number
--   37  in version 1, a count above 2 ^ 32 - 1
--   38  an output that is shorter than the start of the data
use Rattle.std.specs.Prelude.{ℕ, max, Bool, true, List, map, leb, eqb, length, if◌then◌else◌, Option, Some, None}
use Rattle.reading.specs.Choice.{require}
use Rattle.reading.specs.Replies.{Reply, gives, refuses}
use Rattle.reading.specs.Reading.{Answer, accepted, refused}
use Rattle.layout.specs.Layout.{Layout, laid_out_from, refused_at, layout_of}
use Rattle.values.specs.declared.Dialect.{Dialect}
use Rattle.start.specs.Format.{known_dialect}
use Rattle.header.specs.Format.{is_alignment_lem}
use Rattle.sheet.specs.Sheet.{Records, sheet_of}
use Rattle.plan.specs.declared.Draft.{Draft}
use Rattle.plan.specs.declared.Plan.{Plan}
use Rattle.plan.specs.Header.{own_alignment, adds, entries_of, piece_of, end_of, start_of}

-- what follows of the records of a sheet that is well formed, and else the refusal, at its first
-- bad entry
abbrev pub require_formed : Answer Records → ℕ → (Records → Reply Plan) → Reply Plan
require_formed (accepted c e) why rest = rest c
require_formed (refused n p) why rest = refuses why p

-- an alignment that is added is a u32
abbrev pub can_add : ℕ → Option ℕ → Bool
can_add a said = if adds a said then leb a 4294967295 else true

-- the sheet's own alignment is the caller's
abbrev pub agrees : ℕ → Option ℕ → Bool
agrees a (Some x) = eqb x a
agrees a None = true

-- the first tensor that can't be laid, if there is one
abbrev pub laid_of : Layout → Reply (Unit {0})
laid_of (laid_out_from offsets laid) = gives tt
laid_of (refused_at why i) = refuses why i

-- what follows where all are laid, and else the refusal, with the tensor's number
abbrev pub require_laid : Reply (Unit {0}) → Reply Plan → Reply Plan
require_laid (gives a) rest = rest
require_laid (refuses why i) rest = refuses why i

-- both counts fit a size
abbrev pub counts_fit : Dialect → ℕ → ℕ → Bool
counts_fit k n m = if eqb k.version 1 then leb (max n m) 4294967295 else true

-- how many records there are, where the tensors begin, and whether the alignment is added
abbrev pub draft_with : Bool → Records → Draft
draft_with adding c = record { entries = length c.entries; tensors = length c.tensors; first = c.first; adds = adding }

-- the same for the alignment a, which decides whether one is added
abbrev pub draft_of : ℕ → Records → Draft
draft_of a c = draft_with (adds a (own_alignment c.entries)) c

-- and where the header ends, and where its data starts
abbrev pub plan_of : Dialect → ℕ → Records → Plan
plan_of k a c = record { draft = draft_of a c; end = end_of k a c; start = start_of k a c }

-- all tests of a writer, in their order: for a version and byte order, an alignment, the room of
-- the output, and a sheet. A tensor that can't be laid is refused as 35, 17, 13, 14, 15 or 36
unfoldable pub plan_for : Dialect → ℕ → ℕ → List ℕ → Reply Plan
plan_for k a room s =
    require (known_dialect k) (refuses 30 0)
    (require_formed (sheet_of s) 31 (λ c.
    require (is_alignment_lem a) (refuses 32 0)
    (require (can_add a (own_alignment c.entries)) (refuses 33 0)
    (require (agrees a (own_alignment c.entries)) (refuses 34 0)
    (require_laid (laid_of (layout_of a (map piece_of c.tensors)))
    (require (counts_fit k (length (entries_of a c.entries)) (length c.tensors)) (refuses 37 0)
    (require (leb (start_of k a c) room) (refuses 38 0)
    (gives (plan_of k a c)))))))))
