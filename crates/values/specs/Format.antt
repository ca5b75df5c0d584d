-- The entries of a model file's header, as programs of fields: what stands where, and which refusal
-- is given, at which place.
--
-- It goes in the order of the public GGUF document: sizes, texts, value types, arrays, entries. The
-- refusals:
--    1  a field that is not wholly there, at the field (`run` gives it, for every program)
--    7  a text of more than 2 ^ 30 bytes, at its size
--    8  a value type or an item type above 12, at the type
--    9  an item that is an array where four stand in one another already, at the item type
use Rattle.std.specs.Prelude.{ℕ, zero, suc, ◌^◌, min, Bool, true, false, List, [], ◌∷◌, leb, ltb, eqb, length, if◌then◌else◌}
use Rattle.reading.specs.Reading.{Reading, done, refuse, field, ◌>>=◌, ◌>>◌, here, check}
use Rattle.reading.specs.Each.{times}
use Rattle.fields.specs.Value.{number}
use Rattle.values.specs.declared.Dialect.{Dialect}
use Rattle.values.specs.declared.Span.{Span}
use Rattle.values.specs.declared.Key.{Key}
use Rattle.values.specs.declared.ArraySpan.{ArraySpan}
use Rattle.values.specs.declared.Value.{Value}
use Rattle.values.specs.declared.Value.TheVariants.{Single, Text, Array}
use Rattle.values.specs.declared.Entry.{Entry}
use Rattle.scalars.specs.Scalars.{scalar_width, scalar_of}

-- Sizes.

-- a size is 4 bytes in version 1, and else 8
abbrev pub size_width : Dialect → ℕ
size_width k = if eqb k.version 1 then 4 else 8

-- a size: of a text, an array, or one of the two lists of records
unfoldable pub size : Dialect → Reading ℕ
size k = number (size_width k) k.big

-- Texts.

-- a text of which the first l bytes are looked at: its size, and that many bytes; and what f makes
-- of where it is and of those
unfoldable pub text_looking : {A : Type 0} → ℕ → (Span → List ℕ → A) → Dialect → Reading A
text_looking l f k = do
  p ← here
  n ← size k
  check (leb n (2 ^ 30)) 7 p
  q ← here
  field l n (λ bs. done (f (record { place = q; len = n }) bs))

-- a text: where it is, and nothing looks at its bytes
unfoldable pub text : Dialect → Reading Span
text k = text_looking 0 (λ a bs. a) k

-- whether a text starts with the bytes of a word
abbrev pub begins : List ℕ → List ℕ → Bool
begins [] text = true
begins (x ∷ word) [] = false
begins (x ∷ word) (y ∷ text) = if eqb x y then begins word text else false

-- whether it is that word
abbrev pub is_word : List ℕ → List ℕ → Bool
is_word word text = if eqb (length text) (length word) then begins word text else false

-- "general.alignment"
abbrev pub alignment_key : List ℕ
alignment_key = 103 ∷ 101 ∷ 110 ∷ 101 ∷ 114 ∷ 97 ∷ 108 ∷ 46 ∷ 97 ∷ 108 ∷ 105 ∷ 103 ∷ 110 ∷ 109 ∷ 101 ∷ 110 ∷ 116 ∷ []

-- "tokenizer."
abbrev pub tokenizer_key : List ℕ
tokenizer_key = 116 ∷ 111 ∷ 107 ∷ 101 ∷ 110 ∷ 105 ∷ 122 ∷ 101 ∷ 114 ∷ 46 ∷ []

-- what a key's bytes decide: whether it is the alignment's, and whether its arrays are capped
abbrev pub key_of : Span → List ℕ → Key
key_of a bs = record { span = a; is_alignment = is_word alignment_key bs; is_tokenizer = begins tokenizer_key bs }

-- a key: a text, of which 18 bytes are enough to tell
unfoldable pub key : Dialect → Reading Key
key k = text_looking 18 key_of k

-- Value types: u8, i8, u16, i16, u32, i32, f32, bool, string, array, u64, i64, f64.

-- a type
unfoldable pub type : Dialect → Reading ℕ
type k = do
  p ← here
  t ← number 4 k.big
  check (leb t 12) 8 p
  done t

-- Values and arrays.

-- a value of the type t: a scalar, a text, or what `arrays` reads as an array. The type itself
-- stands at o
unfoldable pub value_of : (ℕ → Reading ArraySpan) → Dialect → ℕ → ℕ → Reading Value
value_of arrays k o t =
    if ltb 0 (scalar_width t) then (do
      n ← number (scalar_width t) k.big
      done (Single (scalar_of t n)))
    else if eqb t 8 then (do
      a ← text k
      done (Text a))
    else (do
      a ← arrays o
      done (Array a))

-- an array in which, itself counted, so many arrays may stand in one another: its item type, its
-- count, and its items, of which all are read and none is kept but the place of the first. Where
-- none may stand it is refused at o, where its own type stands: the item type of the array around
-- it
unfoldable pub array : ℕ → Dialect → ℕ → Reading ArraySpan
array zero k o = refuse 9 o
array (suc depth) k o = do
  p ← here
  t ← type k
  n ← size k
  q ← here
  items ← times n (value_of (array depth k) k p t)
  done (record { item = t; count = n; kept = n; first = q })

-- how many arrays may stand in one another, the outermost counted
abbrev pub depth : ℕ
depth = 4

-- a type, and a value of it
unfoldable pub value : Dialect → Reading Value
value k = do
  p ← here
  t ← type k
  value_of (array depth k) k p t

-- Entries.

-- an array keeps all its items; under a key that starts with "tokenizer." at most cap
abbrev pub keeping : Bool → ℕ → Value → Value
keeping tokens cap (Single x) = Single x
keeping tokens cap (Text a) = Text a
keeping tokens cap (Array a) = Array (record { item = a.item; count = a.count; kept = if tokens then min cap a.count else a.count; first = a.first })

-- a key and a value
unfoldable pub entry : Dialect → ℕ → Reading Entry
entry k cap = do
  name ← key k
  v ← value k
  done (record { key = name.span; is_alignment = name.is_alignment; value = keeping name.is_tokenizer cap v })
