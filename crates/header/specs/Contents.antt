-- What a whole header says, without its places; the bytes that say it; and what a reader finds in
-- them.
use Rattle.std.specs.Prelude.{ℕ, suc, ◌≤◌, ◌≡◌, true, List, ◌++◌, map, length, if◌then◌else◌}
use Rattle.reading.specs.Each.{fold}
use Rattle.reading.specs.Back.{bytes_of_all, Along, All}
use Rattle.kinds.specs.Shape.{greatest}
use Rattle.layout.specs.Padding.{is_multiple, padded}
use Rattle.values.specs.declared.Dialect.{Dialect}
use Rattle.values.specs.Format.{size_width, is_word, alignment_key, depth}
use Rattle.scalars.specs.Scalars.{scalar_of, natural_of}
use Rattle.values.specs.Contents.{Content, a_scalar, a_text, an_array, EntryContent, entry_bytes, entry_content, FitsEntry}
use Rattle.tensors.specs.Contents.{TensorContent, tensor_bytes, tensor_content, FitsTensor, total_with}
use Rattle.fields.specs.Bytes.{Within}
use Rattle.start.specs.declared.Rooms.{Rooms}
use Rattle.header.specs.declared.Header.{Header}
use Rattle.start.specs.declared.Start.{Start}
use Rattle.start.specs.Format.{known_dialect}
use Rattle.header.specs.Format.{usable, FullHeader}
use Rattle.start.specs.Contents.{start_bytes}

-- the entries and the tensors, in the order of the file
pub record Contents : Type 0 where
  pub entries : List EntryContent
  pub tensors : List TensorContent

-- what stands before the records: the version and byte order, and how many records there are
abbrev pub start_in : Dialect → Contents → Start
start_in k c = record { dialect = k; tensors = length c.tensors; entries = length c.entries }

-- a header
unfoldable pub header_bytes : Dialect → Contents → List ℕ
header_bytes k c = start_bytes (start_in k c) ++ bytes_of_all (entry_bytes k) c.entries ++ bytes_of_all (tensor_bytes k) c.tensors

-- The alignment.

-- the alignment that a value gives
abbrev pub content_alignment : Content (suc depth) → ℕ
content_alignment (a_scalar t v) = usable (natural_of (scalar_of t v))
content_alignment (a_text b) = 32
content_alignment (an_array t l) = 32

-- the alignment after an entry
abbrev pub latest_content : ℕ → EntryContent → ℕ
latest_content a e = if is_word alignment_key e.key then content_alignment e.value else a

-- the alignment: the last entry whose key is "general.alignment" decides
abbrev pub alignment_in : List EntryContent → ℕ
alignment_in es = fold latest_content 32 es

-- What a reader finds.

-- a header in sum: its version and byte order, its contents, its alignment, where it ends
-- and where its data starts
pub record Summary : Type 0 where
  pub dialect : Dialect
  pub contents : Contents
  pub alignment : ℕ
  pub end : ℕ
  pub start : ℕ

-- the header of these contents, summed up
abbrev pub summary_of : Dialect → Contents → Summary
summary_of k c =
    record { dialect = k; contents = c; alignment = alignment_in c.entries; end = length (header_bytes k c); start = padded (alignment_in c.entries) (length (header_bytes k c)) }

-- the version and byte order of a header
abbrev pub dialect_in : Header → Dialect
dialect_in h = record { version = h.version; big = h.big; turned = h.turned }

-- the version and byte order that were read
abbrev pub dialect_of : FullHeader → Dialect
dialect_of w = dialect_in w.head

-- what was read, with what stands at its places
abbrev pub contents_of : List ℕ → FullHeader → Contents
contents_of s w = record { entries = map (entry_content (dialect_of w) s) w.entries; tensors = map (tensor_content s) w.tensors }

-- what was read, summed up with what stands at its places
abbrev pub summary_in : List ℕ → FullHeader → Summary
summary_in s w = record { dialect = dialect_of w; contents = contents_of s w; alignment = w.head.alignment; end = w.head.end; start = w.head.start }

-- What can be written: the form is one that a file can have, each number fits its field, there are rows for all records, the start of the
-- data fits 64 bits, and every offset is a multiple of the alignment.
pub record FitsContents (rooms : Rooms) (k : Dialect) (c : Contents) : Type 0 where
  pub known : known_dialect k ≡ true
  pub entry_count : Within (size_width k) (length c.entries)
  pub tensor_count : Within (size_width k) (length c.tensors)
  pub entry_room : length c.entries ≤ rooms.entries
  pub tensor_room : length c.tensors ≤ rooms.tensors
  pub entries : All (FitsEntry k) c.entries
  pub tensors : Along FitsTensor total_with 0 c.tensors
  pub start : padded (alignment_in c.entries) (length (header_bytes k c)) ≤ greatest
  pub aligned : All (λ (t : TensorContent). is_multiple (alignment_in c.entries) t.offset ≡ true) c.tensors
