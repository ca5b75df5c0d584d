-- The question for one tensor by its name: the first of that name, with the number of tensors that
-- were passed.
--
-- The program is the header's own up to that tensor. It has no rows, so that no count is refused,
-- and it ends there: what the header's last tests refuse (16, 18), it does not.
use Rattle.std.specs.Prelude.{ℕ, suc, ◌+◌, ◌≡◌, Bool, true, false, List, [], ◌∷◌, ◌++◌, length, take, drop, Option, Some, None}
use Rattle.reading.specs.Back.{All}
use Rattle.reading.specs.Each.{each, times, fold}
use Rattle.reading.specs.Reading.{Reading, done, Answer, accepted, refused, run, ◌>>=◌, here}
use Rattle.rows.specs.Columns.{place_in, length_in}
use Rattle.values.specs.Contents.{bytes_at}
use Rattle.values.specs.Format.{text_looking, is_word, entry}
use Rattle.values.specs.declared.Dialect.{Dialect}
use Rattle.values.specs.declared.Entry.{Entry}
use Rattle.values.specs.declared.Span.{Span}
use Rattle.tensors.specs.Format.{shape, kind_and_offset, fitting, tensor, total_of}
use Rattle.tensors.specs.Rows.{tensor_row}
use Rattle.tensors.specs.declared.Tensor.{Tensor}
use Rattle.start.specs.Format.{start, enough}
use Rattle.start.specs.declared.Start.{Start}
use Rattle.header.specs.Format.{FullHeader, judged, header}
use Rattle.reading.specs.Replies.{Reply, gives, refuses}
use Rattle.lookup.specs.declared.TensorSearch.{TensorSearch}
use Rattle.lookup.specs.Search.{Search, found, none, Looked, seek}

-- where a text is, and whether it is the name that is asked for: one byte more than that has tells
unfoldable pub looked_name : List ℕ → Dialect → Reading (Looked Span)
looked_name name k = text_looking (suc (length name)) (λ a bs. record { what = a; asked = is_word name bs }) k

-- the tensor at p whose name was read, after tensors whose products come to total: its shape, kind
-- and offset, and then what must fit
abbrev pub named : Dialect → ℕ → ℕ → Span → Reading Tensor
named k p total name = do
  x ← shape k
  y ← kind_and_offset k
  fitting p total name x y

-- a tensor, after tensors whose products come to total, and whether its name is that
unfoldable pub looked_tensor : List ℕ → Dialect → ℕ → Reading (Looked Tensor)
looked_tensor name k total = do
  p ← here
  x ← looked_name name k
  t ← named k p total x.what
  done (record { what = t; asked = x.asked })

-- the first tensor of a name, past the entries
unfoldable pub first_tensor : List ℕ → Reading (Search Tensor)
first_tensor name = do
  c ← start enough
  es ← times c.entries (entry c.dialect 3)
  seek (looked_tensor name c.dialect) total_of c.tensors 0 0

-- a tensor, or none, and the number of tensors that were passed
abbrev pub searched : Option Tensor → ℕ → Reply TensorSearch
searched t n = gives (record { tensor = t; passed = n })

-- the tensor and the number of tensors that were passed, or that none has the name and the number of
-- all, or the refusal
abbrev pub tensor_found : Answer (Search Tensor) → Reply TensorSearch
tensor_found (accepted (found t n) q) = searched (Some t) n
tensor_found (accepted (none n) q) = searched None n
tensor_found (refused n p) = refuses n p

-- the answer to the question for a name
abbrev pub tensor_lookup : List ℕ → List ℕ → Reply TensorSearch
tensor_lookup name s = tensor_found (run (first_tensor name) s 0)

-- What that is, in terms of the whole reader.

-- whether a tensor that was read in s has the name
abbrev pub has_name : List ℕ → List ℕ → Tensor → Bool
has_name name s t = is_word name (bytes_at s t.name)

-- whether the tensor of a row has it
abbrev pub row_has_name : List ℕ → List ℕ → List ℕ → Bool
row_has_name name s row = is_word name (take (length_in row) (drop (place_in row) s))

-- a tensor, or none, and a number tell what a search through rows comes to: the same ten words, or
-- none; and the same number
abbrev pub SearchTells : Option Tensor → ℕ → Search (List ℕ) → Type 0
SearchTells (Some t) n (found row m) = (tensor_row t ≡ row) × (n ≡ m)
SearchTells (Some t) n (none m) = ⊥
SearchTells None n (found row m) = ⊥
SearchTells None n (none m) = n ≡ m

-- an answer that is no refusal does
abbrev pub Tells : Reply TensorSearch → Search (List ℕ) → Type 0
Tells (gives x) r = SearchTells x.tensor x.passed r
Tells (refuses n p) r = ⊥

-- what is left of a header's program once the start, the entries and some tensors were read: n
-- tensors more, and the last tests
abbrev pub onward : Start → List Entry → List Tensor → ℕ → Reading FullHeader
onward c es ts n = do
  more ← each (tensor c.dialect) total_of n (fold total_of 0 ts)
  e ← here
  judged c es (ts ++ more) e

-- t is the first tensor of the name, with the number n: the whole reader reads the start, the
-- entries and n tensors, of which t is the last and none before it has the name; and its answer is
-- that of going on after t
pub record FirstOfName (name s : List ℕ) (cap : ℕ) (t : Tensor) (n : ℕ) : Type 0 where
  pub c : Start
  pub p : ℕ
  pub started : accepted c p ≡ run (start enough) s 0
  pub es : List Entry
  pub q : ℕ
  pub entries : accepted es q ≡ run (times c.entries (entry c.dialect cap)) s p
  pub before : List Tensor
  pub end : ℕ
  pub tensors : accepted (before ++ (t ∷ [])) end ≡ run (each (tensor c.dialect) total_of n 0) s q
  pub number : n ≡ length before + 1
  pub others : All (λ (u : Tensor). has_name name s u ≡ false) before
  pub has : has_name name s t ≡ true
  pub left : ℕ
  pub counted : c.tensors ≡ n + left
  pub after : run (header enough cap) s 0 ≡ run (onward c es (before ++ (t ∷ [])) left) s end
