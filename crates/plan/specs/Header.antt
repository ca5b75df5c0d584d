-- The header that a sheet becomes: its entries with the alignment's own where that is added, and
-- its tensors with their offsets.
use Rattle.std.specs.Prelude.{ℕ, Bool, false, not, List, [], ◌∷◌, map, eqb, length, if◌then◌else◌, Option, Some, None}
use Rattle.reading.specs.Each.{fold}
use Rattle.fields.specs.Order.{before}
use Rattle.reading.specs.Reading.{Answer, accepted, refused}
use Rattle.layout.specs.declared.Laid.{Laid}
use Rattle.layout.specs.Padding.{padded}
use Rattle.layout.specs.Layout.{Piece, nothing_laid, laid_after}
use Rattle.values.specs.declared.Dialect.{Dialect}
use Rattle.values.specs.Format.{is_word, alignment_key}
use Rattle.tensors.specs.Format.{lengths}
use Rattle.values.specs.Contents.{a_scalar, EntryContent}
use Rattle.tensors.specs.Contents.{TensorContent, content_of}
use Rattle.header.specs.Contents.{Contents, header_bytes, content_alignment}
use Rattle.sheet.specs.Format.{SheetEntry, SheetTensor}
use Rattle.sheet.specs.Sheet.{Records}

-- what a sheet says of the alignment, after one entry more
abbrev pub own_alignment_with : Option ℕ → SheetEntry → Option ℕ
own_alignment_with z e = if is_word alignment_key e.content.key then Some (content_alignment e.content.value) else z

-- the alignment that a reader will find in a sheet's own entry of it, if there is one
abbrev pub own_alignment : List SheetEntry → Option ℕ
own_alignment es = fold own_alignment_with None es

-- an alignment other than 32 that the sheet does not say itself must be added
abbrev pub adds : ℕ → Option ℕ → Bool
adds a (Some x) = false
adds a None = not (eqb a 32)

-- the entry that says it, as a u32
abbrev pub alignment_entry : ℕ → EntryContent
alignment_entry a = record { key = alignment_key; value = a_scalar 4 a }

-- it stands before the first key that it comes before
abbrev pub inserted : ℕ → List EntryContent → List EntryContent
inserted a [] = alignment_entry a ∷ []
inserted a (e ∷ es) = if before alignment_key e.key then alignment_entry a ∷ e ∷ es else e ∷ inserted a es

-- the content of a metadata entry, without its places
abbrev pub entry_in : SheetEntry → EntryContent
entry_in e = e.content

-- the entries of the header, with the alignment's own or without it
abbrev pub entries_with : Bool → ℕ → List SheetEntry → List EntryContent
entries_with adding a es = if adding then inserted a (map entry_in es) else map entry_in es

-- the entries of the header at the alignment a: the sheet's, and the alignment's own where it is
-- added
abbrev pub entries_of : ℕ → List SheetEntry → List EntryContent
entries_of a es = entries_with (adds a (own_alignment es)) a es

-- a tensor as it is laid
abbrev pub piece_of : SheetTensor → Piece
piece_of t = record { lengths = lengths t.parts.shape; kind = t.parts.kind }

-- a tensor as it is written at an offset
abbrev pub content_at : SheetTensor → ℕ → TensorContent
content_at t offset = content_of t.name t.parts.shape t.parts.kind offset

-- what is laid after a tensor
abbrev pub laid_with : ℕ → Laid → SheetTensor → Laid
laid_with a laid t = laid_after a laid (lengths t.parts.shape) t.parts.kind

-- tensors after what is laid, each at the next offset
abbrev pub laid_from : ℕ → Laid → List SheetTensor → List TensorContent
laid_from a laid [] = []
laid_from a laid (t ∷ ts) = content_at t laid.next ∷ laid_from a (laid_with a laid t) ts

-- the header's contents, at the alignment a
abbrev pub header_contents : ℕ → Records → Contents
header_contents a c = record { entries = entries_of a c.entries; tensors = laid_from a nothing_laid c.tensors }

-- where the header ends
abbrev pub end_of : Dialect → ℕ → Records → ℕ
end_of k a c = length (header_bytes k (header_contents a c))

-- where its data starts: at the next multiple of the alignment
abbrev pub start_of : Dialect → ℕ → Records → ℕ
start_of k a c = padded a (end_of k a c)

-- what a sheet says; one that is not well formed, nothing
abbrev pub records_in : Answer Records → Records
records_in (accepted c e) = c
records_in (refused n p) = record { entries = []; first = 0; tensors = [] }
