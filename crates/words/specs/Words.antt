-- What the exported functions answer, as numbers: one that they return, and eight words.
use Rattle.std.specs.Prelude.{ℕ, List, [], ◌∷◌, ◌++◌, ltb, eqb, get_or, if◌then◌else◌, Option, Some, None}
use Rattle.reading.specs.Reading.{Answer, run, seen}
use Rattle.reading.specs.Ceilings.{under}
use Rattle.reading.specs.declared.Limits.{Limits}
use Rattle.values.specs.declared.Dialect.{Dialect}
use Rattle.values.specs.declared.Value.{Value}
use Rattle.values.specs.declared.Value.TheVariants.{Single, Text, Array}
use Rattle.values.specs.Rows.{entry_row}
use Rattle.tensors.specs.Rows.{tensor_row}
use Rattle.header.specs.declared.Header.{Header}
use Rattle.header.specs.Format.{header}
use Rattle.values.specs.declared.Entry.{Entry}
use Rattle.tensors.specs.declared.Tensor.{Tensor}
use Rattle.reading.specs.Replies.{Reply, gives, refuses, reply_of}
use Rattle.writer.specs.declared.Written.{Written}
use Rattle.lookup.specs.declared.TensorSearch.{TensorSearch}
use Rattle.lookup.specs.Questions.{string_status}
use Rattle.start.specs.Format.{enough}

-- a word and seven zeros
abbrev pub one_word : ℕ → List ℕ
one_word n = n ∷ 0 ∷ 0 ∷ 0 ∷ 0 ∷ 0 ∷ 0 ∷ 0 ∷ []

-- the number of an answer: what its value is told by, and else the refusal's
abbrev pub told_number : {A : Type 0} → (A → ℕ) → Reply A → ℕ
told_number number (gives a) = number a
told_number number (refuses n p) = n

-- its words: those of its value, and of a refusal its place
abbrev pub told_words : {A : Type 0} → (A → List ℕ) → Reply A → List ℕ
told_words eight (gives a) = eight a
told_words eight (refuses n p) = one_word p

-- a value that is always told by 0
abbrev pub fine : {A : Type 0} → A → ℕ
fine a = 0

-- one that may be absent: 0 where it is there, and else the number of its absence
abbrev pub there_or : {A : Type 0} → ℕ → Option A → ℕ
there_or absent (Some a) = 0
there_or absent None = absent

-- nothing but that there is an answer
abbrev pub no_words : Unit {0} → List ℕ
no_words a = one_word 0

-- what a header says of itself where there are rows enough; which items are kept does not matter to
-- it
abbrev pub measured : Limits → List ℕ → Answer Header
measured limits s = seen (λ w. w.head) (run (under limits (header enough 3)) s 0)

-- 0 where a header was accepted, and else the refusal's number
abbrev pub number_of : Answer Header → ℕ
number_of r = told_number fine (reply_of r)

-- the byte order of a header: 0 for little-endian, 1 for big-endian, and 2 where the magic is turned
-- round too
abbrev pub byte_order : Header → ℕ
byte_order h = if h.big then (if h.turned then 2 else 1) else 0

-- version, byte order, entries, tensors, alignment, the header's end, the start of the data, 0
abbrev pub header_words : Header → List ℕ
header_words h = h.version ∷ byte_order h ∷ h.entries ∷ h.tensors ∷ h.alignment ∷ h.end ∷ h.start ∷ 0 ∷ []

-- the words of a header; of a refusal its place
abbrev pub words_of : Answer Header → List ℕ
words_of r = told_words header_words (reply_of r)

-- 0 where every tensor ends inside the file, and else the refusal's number
abbrev pub range_number : Reply (Unit {0}) → ℕ
range_number r = told_number fine r

-- the number of the first tensor that does not; 0 where there is none
abbrev pub range_words : Reply (Unit {0}) → List ℕ
range_words r = told_words no_words r

-- 0 where a key was found, 100 where it is absent, and else the refusal's number
abbrev pub entry_number : Reply (Option Entry) → ℕ
entry_number r = told_number (there_or 100) r

-- an entry's row and a zero; zeros where there is none
abbrev pub found_words : Option Entry → List ℕ
found_words (Some e) = entry_row e ++ (0 ∷ [])
found_words None = one_word 0

-- the entry's row and a zero; of a refusal its place
abbrev pub entry_words : Reply (Option Entry) → List ℕ
entry_words r = told_words found_words r

-- 0 where a string was found, 100 where the key is absent, 101 where its value is of another type,
-- and else the refusal's number
abbrev pub string_number : Reply (Option Entry) → ℕ
string_number l = get_or (string_status l) 0 0

-- a string's place and length; of any other value zeros
abbrev pub text_words : Value → List ℕ
text_words (Single x) = one_word 0
text_words (Text a) = a.place ∷ a.len ∷ 0 ∷ 0 ∷ 0 ∷ 0 ∷ 0 ∷ 0 ∷ []
text_words (Array a) = one_word 0

-- the place and length of the string that was found; of a refusal its place
abbrev pub string_words : Reply (Option Entry) → List ℕ
string_words (gives (Some e)) = text_words e.value
string_words (gives None) = one_word 0
string_words (refuses n p) = one_word p

-- 0 where a search came to a tensor, and 100 where it did not
abbrev pub search_number : TensorSearch → ℕ
search_number x = there_or 100 x.tensor

-- 0 where a tensor was found, 100 where none has the name, and else the refusal's number
abbrev pub tensor_number : Reply TensorSearch → ℕ
tensor_number r = told_number search_number r

-- how many tensors a search passed
abbrev pub search_words : TensorSearch → List ℕ
search_words x = one_word x.passed

-- how many tensors were passed; of a refusal its place
abbrev pub tensor_words : Reply TensorSearch → List ℕ
tensor_words r = told_words search_words r

-- a row after a search: that of the tensor that was found, and else what it was
abbrev pub row_of : List ℕ → Option Tensor → List ℕ
row_of old (Some t) = tensor_row t
row_of old None = old

-- a tensor's row after the question
abbrev pub row_after : List ℕ → Reply TensorSearch → List ℕ
row_after old (gives x) = row_of old x.tensor
row_after old (refuses n p) = old

-- 0 where the file's type is known, 102 where it is not, and else the refusal's number
abbrev pub type_number : Reply (Option ℕ) → ℕ
type_number r = told_number (there_or 102) r

-- a file's type; 0 where it is unknown
abbrev pub known_words : Option ℕ → List ℕ
known_words (Some n) = one_word n
known_words None = one_word 0

-- the file's type; of a refusal its place
abbrev pub type_words : Reply (Option ℕ) → List ℕ
type_words r = told_words known_words r

-- a version in the byte order of a number: little-endian for 0, big-endian with the magic turned
-- round too for 2, and big-endian for any other
abbrev pub dialect_of : ℕ → ℕ → Dialect
dialect_of version order = record { version = version; big = ltb 0 order; turned = eqb order 2 }

-- 0 where a header was written, and else the refusal's number
abbrev pub written_number : Reply Written → ℕ
written_number r = told_number fine r

-- a header's end, the start of its data and zeros
abbrev pub placed_words : Written → List ℕ
placed_words x = x.end ∷ x.start ∷ 0 ∷ 0 ∷ 0 ∷ 0 ∷ 0 ∷ 0 ∷ []

-- the header's end, the start of the data and zeros; of a refusal its place
abbrev pub written_words : Reply Written → List ℕ
written_words r = told_words placed_words r

-- 0 where a trace was replayed, and else the refusal's number
abbrev pub replay_number : Reply (Unit {0}) → ℕ
replay_number r = told_number fine r

-- zeros, since the answers are in a table; of a refusal its place
abbrev pub replay_words : Reply (Unit {0}) → List ℕ
replay_words r = told_words no_words r
