-- The record sheet's entries, as programs of fields. Every number is big-endian, and
-- lengths come before what they measure.
--
-- A program here reads what an entry says, as contents, and where its parts are. Whatever is not
-- well formed is refused; the sheet gives it as refusal 31 at the start of the entry, so that no
-- number or place of a refusal inside an entry matters.
use Rattle.std.specs.Prelude.{ℕ, zero, suc, ◌+◌, ◌-◌, ◌^◌, Bool, true, false, List, leb, ltb, eqb, if◌then◌else◌}
use Rattle.reading.specs.Reading.{Reading, done, refuse, field, ◌>>=◌, ◌>>◌, here, check}
use Rattle.reading.specs.Each.{times}
use Rattle.fields.specs.Value.{number}
use Rattle.values.specs.declared.Dialect.{Dialect}
use Rattle.values.specs.declared.Span.{Span}
use Rattle.tensors.specs.declared.Shape.{Shape}
use Rattle.scalars.specs.Scalars.{scalar_width}
use Rattle.values.specs.Format.{depth}
use Rattle.tensors.specs.Format.{lengths_of}
use Rattle.values.specs.Contents.{ValueContent, a_scalar, a_text, an_array, Content, EntryContent}
use Rattle.sheet.specs.declared.EntryParts.{EntryParts}
use Rattle.sheet.specs.declared.TensorParts.{TensorParts}

-- what is not well formed
abbrev pub bad : {A : Type 0} → Reading A
bad = refuse 31 0

-- goes on where the test holds
abbrev pub must : Bool → Reading (Unit {0})
must test = check test 31 0

-- n bytes, all of them
unfoldable pub bytes : ℕ → Reading (List ℕ)
bytes n = field n n (λ bs. done bs)

-- bytes, and where they are
pub record Text : Type 0 where
  pub span : Span
  pub bytes : List ℕ

-- a text of n bytes, which is not too long
unfoldable pub text_of : ℕ → Reading Text
text_of n = do
  must (leb n (2 ^ 30))
  p ← here
  b ← bytes n
  done (record { span = record { place = p; len = n }; bytes = b })

-- a length and a text
unfoldable pub text : Reading Text
text = do
  n ← number 4 true
  text_of n

-- a scalar of the type t: a bool is 0 or 1
unfoldable pub scalar : ℕ → Reading ℕ
scalar t = do
  v ← number (scalar_width t) true
  must (if eqb t 7 then leb v 1 else true)
  done v

-- whether an array's items may be of the type t, where d arrays may still stand in it
abbrev pub item_type : ℕ → ℕ → Bool
item_type d t = if eqb t 9 then ltb 0 d else leb t 12

-- an array: its item type, its count and its items, in which fewer than d arrays may stand in one
-- another
unfoldable pub array : (d : ℕ) → (ℕ → Reading (Content d)) → Reading (ValueContent (Content d))
array zero item = bad
array (suc d) item = do
  t ← number 1 true
  must (item_type d t)
  n ← number 4 true
  l ← times n (item t)
  done (an_array t l)

-- an item of the type t: a scalar, a text with its length, or an array
unfoldable pub item : (d : ℕ) → ℕ → Reading (Content d)
item zero t = bad
item (suc d) t =
    if ltb 0 (scalar_width t) then (do
      v ← scalar t
      done (a_scalar t v))
    else if eqb t 8 then (do
      a ← text
      done (a_text a.bytes))
    else array d (item d)

-- the value of the type t of an entry that ends at e: a scalar, a string, which is all that is
-- left, or an array
unfoldable pub value : ℕ → ℕ → Reading (Content (suc depth))
value e t =
    if ltb 0 (scalar_width t) then (do
      v ← scalar t
      done (a_scalar t v))
    else if eqb t 8 then (do
      p ← here
      a ← text_of (e - p)
      done (a_text a.bytes))
    else if eqb t 9 then array depth (item depth)
    else bad

-- an entry's length and its tag: where the entry ends
unfoldable pub opening : ℕ → Reading ℕ
opening tag = do
  n ← number 4 true
  p ← here
  t ← number 1 true
  must (eqb t tag)
  done (p + n)

-- an entry of that tag: what inner reads up to its end, and that nothing is left of it
unfoldable pub framed : {A : Type 0} → ℕ → (ℕ → Reading A) → Reading A
framed tag inner = do
  e ← opening tag
  a ← inner e
  q ← here
  must (eqb q e)
  done a

-- a metadata entry: what it says, and where its key and its value are
pub record SheetEntry : Type 0 where
  pub content : EntryContent
  pub parts : EntryParts

-- a key, a type and a value
unfoldable pub entry_body : ℕ → Reading SheetEntry
entry_body e = do
  a ← text
  t ← number 1 true
  p ← here
  c ← value e t
  done (record { content = record { key = a.bytes; value = c }; parts = record { key = a.span; form = t; value = p } })

-- a metadata entry: tag 1, and a key, a type and a value
unfoldable pub metadata : Reading SheetEntry
metadata = framed 1 entry_body

-- the byte order of the sheet's own numbers; its version does not matter, and it has no magic
abbrev pub big_end : Dialect
big_end = record { version = 3; big = true; turned = false }

-- the count of dimensions, and four lengths
unfoldable pub shape : Reading Shape
shape = do
  n ← number 1 true
  must (leb n 4)
  lengths_of big_end n

-- a tensor: its name, and where that is; its kind and its shape
pub record SheetTensor : Type 0 where
  pub name : List ℕ
  pub parts : TensorParts

-- a name, a kind and a shape
unfoldable pub tensor_body : Reading SheetTensor
tensor_body = do
  a ← text
  k ← number 4 true
  x ← shape
  done (record { name = a.bytes; parts = record { name = a.span; kind = k; shape = x } })

-- a tensor entry: tag 2, and a name, a kind and a shape
unfoldable pub tensor : Reading SheetTensor
tensor = framed 2 (λ e. tensor_body)
