-- What entries say, without their places; the bytes that say it; and what stands at the places of
-- what was read.
--
-- Beside each form of `Format` stand its bytes and its view, with the same fields in the same
-- order.
use Rattle.std.specs.Prelude.{ℕ, zero, suc, ◌+◌, ◌^◌, ◌≤◌, ◌<◌, ◌≡◌, Bool, List, [], ◌++◌, leb, length, take, drop, if◌then◌else◌}
use Rattle.reading.specs.Reading.{Reading, refuse}
use Rattle.fields.specs.Bytes.{bytes_of, Within}
use Rattle.reading.specs.Back.{bytes_of_all, items_there, All}
use Rattle.values.specs.declared.Dialect.{Dialect}
use Rattle.values.specs.declared.Span.{Span}
use Rattle.values.specs.declared.Key.{Key}
use Rattle.values.specs.declared.Value.{Value}
use Rattle.values.specs.declared.Value.TheVariants.{Single, Text, Array}
use Rattle.values.specs.declared.Entry.{Entry}
use Rattle.values.specs.Format.{size_width, begins, is_word, alignment_key, tokenizer_key, value_of, array, depth}
use Rattle.scalars.specs.Scalars.{scalar_width, scalar_type, scalar_bits, FitsScalar}

-- a value: a scalar's type and bits; a text's bytes; or the type of an array's items, and what each
-- of them says
pub data ValueContent (I : Type 0) : Type 0 where
  a_scalar : ℕ → ℕ → ValueContent I
  a_text : List ℕ → ValueContent I
  an_array : ℕ → List I → ValueContent I

-- the content of a value in which fewer than so many arrays stand in one another; below one there
-- is none
abbrev pub Content : ℕ → Type 0
Content zero = Unit {0}
Content (suc d) = ValueContent (Content d)

-- an entry
pub record EntryContent : Type 0 where
  pub key : List ℕ
  pub value : Content (suc depth)

-- a key, and what its bytes decide
pub record FlaggedKey : Type 0 where
  pub key : List ℕ
  pub is_alignment : Bool
  pub is_tokenizer : Bool

-- what the bytes of a key decide
abbrev pub flagged_key : List ℕ → FlaggedKey
flagged_key b = record { key = b; is_alignment = is_word alignment_key b; is_tokenizer = begins tokenizer_key b }

-- an entry, and whether its key is the alignment's
pub record FlaggedEntry : Type 0 where
  pub content : EntryContent
  pub is_alignment : Bool

-- whether an entry's key is the alignment's
abbrev pub flagged_entry : EntryContent → FlaggedEntry
flagged_entry e = record { content = e; is_alignment = is_word alignment_key e.key }

-- The bytes.

-- a size, in the width of the version
unfoldable pub size_bytes : Dialect → ℕ → List ℕ
size_bytes k n = bytes_of k.big (size_width k) n

-- a text: its size and its bytes
unfoldable pub text_bytes : Dialect → List ℕ → List ℕ
text_bytes k b = size_bytes k (length b) ++ b

-- a type
unfoldable pub type_bytes : Dialect → ℕ → List ℕ
type_bytes k t = bytes_of k.big 4 t

-- a value's type
abbrev pub type_of : {I : Type 0} → ValueContent I → ℕ
type_of (a_scalar t v) = t
type_of (a_text b) = 8
type_of (an_array t l) = 9

-- a value, without its type
unfoldable pub value_bytes : (d : ℕ) → Dialect → Content d → List ℕ
value_bytes zero k c = []
value_bytes (suc d) k (a_scalar t v) = bytes_of k.big (scalar_width t) v
value_bytes (suc d) k (a_text b) = text_bytes k b
value_bytes (suc d) k (an_array t l) = type_bytes k t ++ size_bytes k (length l) ++ bytes_of_all (value_bytes d k) l

-- an entry: its key, its value's type and its value
unfoldable pub entry_bytes : Dialect → EntryContent → List ℕ
entry_bytes k e = text_bytes k e.key ++ type_bytes k (type_of e.value) ++ value_bytes (suc depth) k e.value

-- What stands at the places.

-- the bytes where a text is
abbrev pub bytes_at : List ℕ → Span → List ℕ
bytes_at s a = take a.len (drop a.place s)

-- the bytes of a text that is inside, and none of one that is not
abbrev pub inside_of : List ℕ → Span → List ℕ
inside_of s a = if leb (a.place + a.len) (length s) then bytes_at s a else []

-- a value of the type t in which fewer than so many arrays stand in one another
abbrev pub value_in : ℕ → Dialect → ℕ → ℕ → Reading Value
value_in zero k o t = refuse 9 o
value_in (suc d) k o t = value_of (array d k) k o t

-- a value: the items of an array are read again, from the place of the first
unfoldable pub value_content : (d : ℕ) → Dialect → List ℕ → Value → Content d
value_content zero k s v = tt
value_content (suc d) k s (Single x) = a_scalar (scalar_type x) (scalar_bits x)
value_content (suc d) k s (Text a) = a_text (bytes_at s a)
value_content (suc d) k s (Array a) = an_array a.item (items_there (value_content d k s) (value_in d k 0 a.item) a.count s a.first)

-- an entry that was read, with the bytes of its key and the content of its value
abbrev pub entry_content : Dialect → List ℕ → Entry → EntryContent
entry_content k s e = record { key = bytes_at s e.key; value = value_content (suc depth) k s e.value }

-- a key
abbrev pub flagged_key_of : List ℕ → Key → FlaggedKey
flagged_key_of s x = record { key = bytes_at s x.span; is_alignment = x.is_alignment; is_tokenizer = x.is_tokenizer }

-- an entry, and what its key decides
abbrev pub flagged_entry_of : Dialect → List ℕ → Entry → FlaggedEntry
flagged_entry_of k s e = record { content = entry_content k s e; is_alignment = e.is_alignment }

-- a text that is not too long
abbrev pub Short : List ℕ → Type 0
Short b = length b ≤ 2 ^ 30

-- a value's type, where something is said
abbrev pub type_in : (d : ℕ) → Content d → ℕ
type_in zero c = 0
type_in (suc d) c = type_of c

-- a value in which fewer than so many arrays stand in one another; the items of an array are all of
-- its item type
abbrev pub FitsValue : (d : ℕ) → Dialect → Content d → Type 0
FitsValue zero k c = ⊥
FitsValue (suc d) k (a_scalar t v) = FitsScalar t v
FitsValue (suc d) k (a_text b) = Short b
FitsValue (suc d) k (an_array t l) = (0 < d) × (t ≤ 12) × Within (size_width k) (length l) × All (λ c. (type_in d c ≡ t) × FitsValue d k c) l

-- an entry
pub record FitsEntry (k : Dialect) (e : EntryContent) : Type 0 where
  pub key : Short e.key
  pub value : FitsValue (suc depth) k e.value
