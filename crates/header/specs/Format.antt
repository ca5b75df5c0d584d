-- The whole header: what stands before the records, the entries, the tensors, the alignment, and
-- where the data starts.
--
-- It goes in the order of the file. The refusals beside those of its parts, last of all:
--   18  a data offset above 2 ^ 64 - 1, at the header's end
--   16  a tensor's offset that is no multiple of the alignment, at that offset; the first one decides
use Rattle.std.specs.Prelude.{ℕ, ◌%◌, Bool, false, List, leb, eqb, if◌then◌else◌, Option, Some, None}
use Rattle.reading.specs.Reading.{Reading, done, ◌>>=◌, ◌>>◌, here, check}
use Rattle.reading.specs.Each.{each, times, check_each, fold}
use Rattle.kinds.specs.Shape.{greatest}
use Rattle.layout.specs.Padding.{is_multiple, padded}
use Rattle.values.specs.declared.Value.{Value}
use Rattle.values.specs.declared.Value.TheVariants.{Single, Text, Array}
use Rattle.values.specs.declared.Entry.{Entry}
use Rattle.tensors.specs.declared.Tensor.{Tensor}
use Rattle.values.specs.Format.{entry}
use Rattle.tensors.specs.Format.{tensor, offset_place, total_of}
use Rattle.start.specs.declared.Rooms.{Rooms}
use Rattle.start.specs.declared.Start.{Start}
use Rattle.header.specs.declared.Header.{Header}
use Rattle.start.specs.Format.{start}
use Rattle.scalars.specs.Scalars.{natural_of}

-- whether a number is an alignment: above 0, and a multiple of 8
abbrev pub is_alignment_lem : ℕ → Bool
is_alignment_lem n = if eqb n 0 then false else eqb (n % 8) 0

-- the alignment that a number means: itself where it is one; any other number, or none, means 32
abbrev pub usable : Option ℕ → ℕ
usable (Some n) = if is_alignment_lem n then n else 32
usable None = 32

-- the alignment that a value gives
abbrev pub alignment_of : Value → ℕ
alignment_of (Single x) = usable (natural_of x)
alignment_of (Text a) = 32
alignment_of (Array a) = 32

-- the alignment after an entry: the last "general.alignment" decides
abbrev pub latest : ℕ → Entry → ℕ
latest a e = if e.is_alignment then alignment_of e.value else a

-- what a header says of itself, where its alignment is a and it ends at e
abbrev pub header_of : Start → ℕ → ℕ → Header
header_of c a e =
    record { version = c.dialect.version; big = c.dialect.big; turned = c.dialect.turned; entries = c.entries; tensors = c.tensors; alignment = a; end = e; start = padded a e }

-- a header, its entries and its tensors
pub record FullHeader : Type 0 where
  pub head : Header
  pub entries : List Entry
  pub tensors : List Tensor

-- whether a tensor's offset is a multiple of the alignment a
abbrev pub is_aligned : ℕ → Tensor → Bool
is_aligned a t = is_multiple a t.offset

-- the header of records that end at e: the start of its data must fit, and every offset must be a
-- multiple of its alignment
abbrev pub judged : Start → List Entry → List Tensor → ℕ → Reading FullHeader
judged c es ts e = do
  check (leb (padded (fold latest 32 es) e) greatest) 18 e
  check_each (is_aligned (fold latest 32 es)) 16 offset_place ts
  done (record { head = header_of c (fold latest 32 es) e; entries = es; tensors = ts })

-- the header, with the rows that there are and the cap of a tokenizer's arrays
unfoldable pub header : Rooms → ℕ → Reading FullHeader
header rooms cap = do
  c ← start rooms
  es ← times c.entries (entry c.dialect cap)
  ts ← each (tensor c.dialect) total_of c.tensors 0
  e ← here
  judged c es ts e
