-- A record sheet: the version byte 1, the metadata entries with their keys in order, and the
-- tensors, used up exactly.
use Rattle.std.specs.Prelude.{ℕ, zero, suc, ◌+◌, Bool, true, List, [], ◌∷◌, ltb, eqb, length, get_or, if◌then◌else◌, Option, Some, None, Result, Ok, Err}
use Rattle.fields.specs.Order.{before}
use Rattle.reading.specs.Reading.{Reading, done, Answer, accepted, refused, run, ◌>>=◌, ◌>>◌, and_then}
use Rattle.values.specs.Contents.{inside_of}
use Rattle.sheet.specs.Format.{must, Text, SheetEntry, metadata, SheetTensor, tensor}
use Rattle.values.specs.declared.Span.{Span}
use Rattle.sheet.specs.declared.EntryParts.{EntryParts}
use Rattle.sheet.specs.declared.TensorParts.{TensorParts}
use Rattle.sheet.specs.declared.Counts.{Counts}

-- one more, where it could be read, and those after it; the first that could not is refusal 31 at
-- its start
abbrev pub consed : {A : Type 0} → Answer A → ℕ → (A → ℕ → Answer (List A)) → Answer (List A)
consed (accepted a q) p rest = and_then (rest a q) (λ l e. accepted (a ∷ l) e)
consed (refused n o) p rest = refused 31 p

-- entries from the place p on, as long as `more` says that one follows, each given the state that
-- those before it made. Every entry has five bytes at least, so that as many turns as there are
-- bytes are enough
unfoldable pub as_many_as : {S A : Type 0} → (List ℕ → ℕ → Bool) → (S → Reading A) → (S → A → S) → ℕ → S → List ℕ → ℕ → Answer (List A)
as_many_as more m f zero z s p = accepted [] p
as_many_as more m f (suc turns) z s p =
    if more s p then consed (run (m z) s p) p (λ a q. as_many_as more m f turns (f z a) s q)
    else accepted [] p

-- the key before an entry's, if there is one
pub data Last : Type 0 where
  no_key : Last
  last_key : List ℕ → Last

-- keys ascend strictly by their bytes
abbrev pub follows : Last → List ℕ → Bool
follows no_key key = true
follows (last_key last) key = before last key

-- the key before, from its place in the sheet
abbrev pub last_in : List ℕ → Option Span → Last
last_in s None = no_key
last_in s (Some span) = last_key (inside_of s span)

-- a metadata entry after that key
unfoldable pub next : Last → Reading SheetEntry
next last = do
  e ← metadata
  must (follows last e.content.key)
  done e

-- the key of an entry is the last one for the entry after it
abbrev pub key_of : Last → SheetEntry → Last
key_of last e = last_key e.content.key

-- whether the entry at p has the tag of metadata
abbrev pub is_metadata : List ℕ → ℕ → Bool
is_metadata s p = eqb (get_or s (p + 4) 0) 1

-- whether the sheet goes on at p
abbrev pub goes_on_with : List ℕ → ℕ → Bool
goes_on_with s p = ltb p (length s)

-- the metadata entries from p on
unfoldable pub entries_from : List ℕ → ℕ → Answer (List SheetEntry)
entries_from s p = as_many_as is_metadata next key_of (length s) no_key s p

-- the tensors from p on, up to the sheet's end
unfoldable pub tensors_from : List ℕ → ℕ → Answer (List SheetTensor)
tensors_from s p = as_many_as {S = Unit {0}} goes_on_with (λ z. tensor) (λ z a. z) (length s) tt s p

-- what a sheet says, and where its tensors begin
pub record Records : Type 0 where
  pub entries : List SheetEntry
  pub first : ℕ
  pub tensors : List SheetTensor

-- the meaning of a sheet, or refusal 31 at its first bad entry, and at 0 for another version
unfoldable pub sheet_of : List ℕ → Answer Records
sheet_of s =
    if eqb (get_or s 0 0) 1 then and_then (entries_from s 1) (λ es q. and_then (tensors_from s q) (λ ts e. accepted (record { entries = es; first = q; tensors = ts }) e))
    else refused 31 0

-- What the code's answers say.

-- a text's place, and the place after it
abbrev pub span_of : Answer Text → Option (Span × ℕ)
span_of (accepted a q) = Some (a.span, q)
span_of (refused n p) = None

-- the parts of an entry, and the place after it
abbrev pub entry_of : Answer SheetEntry → Option (EntryParts × ℕ)
entry_of (accepted e q) = Some (e.parts, q)
entry_of (refused n p) = None

-- the parts of a tensor, and the place after it
abbrev pub tensor_of : Answer SheetTensor → Option (TensorParts × ℕ)
tensor_of (accepted t q) = Some (t.parts, q)
tensor_of (refused n p) = None

-- how many metadata entries and how many tensors there are, and where the tensors begin; or the
-- first entry that is bad
abbrev pub checked_of : Answer Records → Result Counts ℕ
checked_of (accepted c e) = Ok (record { entries = length c.entries; tensors = length c.tensors; first = c.first })
checked_of (refused n p) = Err p
