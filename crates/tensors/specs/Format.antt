-- The tensors of a model file's header, as programs of fields: what stands where, and which refusal
-- is given, at which place. The refusals, beside those of a name's text:
--   10  more than four dimensions, at their count
--   11  a number that names no kind, at the kind; `mark` says that one was found known (12 above a
--       reader's ceiling)
--   17  a first length that is not whole blocks of the kind, at the tensor's start
--   13  a product of lengths above 2 ^ 64 - 1, at the tensor's start
--   14  a size before its division above 2 ^ 64 - 1, at the tensor's start
--   15  a running total of products above 2 ^ 64 - 1, at the tensor's start
use Rattle.std.specs.Prelude.{ℕ, ◌+◌, ◌*◌, List, [], ◌∷◌, leb, ltb, if◌then◌else◌}
use Rattle.reading.specs.Reading.{a_kind, Reading, done, ◌>>=◌, ◌>>◌, here, check, mark}
use Rattle.fields.specs.Value.{number}
use Rattle.kinds.specs.Table.{known_kind}
use Rattle.kinds.specs.Shape.{greatest, first_length, whole_blocks, product_of, products_fit, size_within, size_of}
use Rattle.values.specs.declared.Dialect.{Dialect}
use Rattle.values.specs.declared.Span.{Span}
use Rattle.tensors.specs.declared.Shape.{Shape}
use Rattle.tensors.specs.declared.KindAndOffset.{KindAndOffset}
use Rattle.tensors.specs.declared.Tensor.{Tensor}
use Rattle.values.specs.Format.{text}

-- Tensors.

-- the length at the place i of a shape of n dimensions: beyond those it is 1, and nothing is read
unfoldable pub length_at : Dialect → ℕ → ℕ → Reading ℕ
length_at k n i = if ltb i n then number 8 k.big else done 1

-- the four lengths of a shape of n dimensions
unfoldable pub lengths_of : Dialect → ℕ → Reading Shape
lengths_of k n = do
  a ← length_at k n 0
  b ← length_at k n 1
  c ← length_at k n 2
  d ← length_at k n 3
  done (record { dimensions = n; first = a; second = b; third = c; fourth = d })

-- the count of dimensions, and four lengths
unfoldable pub shape : Dialect → Reading Shape
shape k = do
  p ← here
  n ← number 4 k.big
  check (leb n 4) 10 p
  lengths_of k n

-- the four lengths of a shape, as products take them
abbrev pub lengths : Shape → List ℕ
lengths x = x.first ∷ x.second ∷ x.third ∷ x.fourth ∷ []

-- the kind and the offset; the kind is judged once both are read
unfoldable pub kind_and_offset : Dialect → Reading KindAndOffset
kind_and_offset k = do
  p ← here
  t ← number 4 k.big
  o ← number 8 k.big
  check (known_kind t) 11 p
  mark a_kind t p
  done (record { kind = t; offset = o })

-- the tensor of what stands at p, after tensors whose products come to total: its first length must
-- be whole blocks, and its products, its size and the new total must fit
abbrev pub fitting : ℕ → ℕ → Span → Shape → KindAndOffset → Reading Tensor
fitting p total name x y = do
  check (whole_blocks (first_length (lengths x)) y.kind) 17 p
  check (products_fit (lengths x)) 13 p
  check (size_within (lengths x) y.kind) 14 p
  check (leb (total + product_of (lengths x)) greatest) 15 p
  done (record { name = name; shape = x; kind = y.kind; offset = y.offset; parameters = product_of (lengths x); size = size_of (lengths x) y.kind })

-- a tensor, after tensors whose products come to total: its name, shape, kind and offset, and then
-- what must fit
unfoldable pub tensor : Dialect → ℕ → Reading Tensor
tensor k total = do
  p ← here
  name ← text k
  x ← shape k
  y ← kind_and_offset k
  fitting p total name x y

-- the place of a tensor's offset: past its name, the count of its dimensions, its lengths and its
-- kind
abbrev pub offset_place : Tensor → ℕ
offset_place t = t.name.place + t.name.len + 4 + 8 * t.shape.dimensions + 4

-- the total after a tensor
abbrev pub total_of : ℕ → Tensor → ℕ
total_of total t = total + t.parameters
