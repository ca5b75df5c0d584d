-- What tensors say, without their places; the bytes that say it; and what stands at the places of
-- what was read.
--
-- Beside each form of `Format` stand its bytes and its view, with the same fields in the same
-- order.
use Rattle.std.specs.Prelude.{ℕ, ◌+◌, ◌≤◌, ◌≡◌, true, List, [], ◌++◌, ltb, if◌then◌else◌}
use Rattle.fields.specs.Bytes.{bytes_of, Within}
use Rattle.kinds.specs.Table.{known_kind}
use Rattle.kinds.specs.Shape.{greatest, first_length, whole_blocks, product_of, products_fit, size_within, size_of}
use Rattle.values.specs.declared.Dialect.{Dialect}
use Rattle.tensors.specs.declared.Shape.{Shape}
use Rattle.tensors.specs.declared.Tensor.{Tensor}
use Rattle.tensors.specs.Format.{lengths}
use Rattle.values.specs.Contents.{text_bytes, type_bytes, bytes_at, Short}

-- a tensor
pub record TensorContent : Type 0 where
  pub name : List ℕ
  pub shape : Shape
  pub kind : ℕ
  pub offset : ℕ
  pub size : ℕ

-- the content of a tensor of that name, shape, kind and offset: its size is that of its shape and
-- kind
abbrev pub content_of : List ℕ → Shape → ℕ → ℕ → TensorContent
content_of name x k o = record { name = name; shape = x; kind = k; offset = o; size = size_of (lengths x) k }

-- the length at the place i of n dimensions, and no bytes beyond those
unfoldable pub length_bytes : Dialect → ℕ → ℕ → ℕ → List ℕ
length_bytes k n i v = if ltb i n then bytes_of k.big 8 v else []

-- the count of dimensions, and that many lengths
unfoldable pub shape_bytes : Dialect → Shape → List ℕ
shape_bytes k x =
    type_bytes k x.dimensions ++ length_bytes k x.dimensions 0 x.first ++ length_bytes k x.dimensions 1 x.second ++
    length_bytes k x.dimensions 2 x.third ++ length_bytes k x.dimensions 3 x.fourth

-- a kind and an offset
unfoldable pub kind_and_offset_bytes : Dialect → ℕ → ℕ → List ℕ
kind_and_offset_bytes k t o = type_bytes k t ++ bytes_of k.big 8 o

-- a tensor: its name, its shape, its kind and its offset. Its size is not written
unfoldable pub tensor_bytes : Dialect → TensorContent → List ℕ
tensor_bytes k t = text_bytes k t.name ++ shape_bytes k t.shape ++ kind_and_offset_bytes k t.kind t.offset

-- a tensor that was read, with the bytes of its name
abbrev pub tensor_content : List ℕ → Tensor → TensorContent
tensor_content s t = record { name = bytes_at s t.name; shape = t.shape; kind = t.kind; offset = t.offset; size = t.size }

-- the length at the place i of n: beyond them it is 1
pub record FitsLength (n i v : ℕ) : Type 0 where
  pub within : Within 8 v
  pub beyond : n ≤ i → v ≡ 1

-- a shape
pub record FitsShape (x : Shape) : Type 0 where
  pub few : x.dimensions ≤ 4
  pub first : FitsLength x.dimensions 0 x.first
  pub second : FitsLength x.dimensions 1 x.second
  pub third : FitsLength x.dimensions 2 x.third
  pub fourth : FitsLength x.dimensions 3 x.fourth

-- a tensor, after others whose products come to total
pub record FitsTensor (before : ℕ) (t : TensorContent) : Type 0 where
  pub name : Short t.name
  pub shape : FitsShape t.shape
  pub kind : Within 4 t.kind
  pub offset : Within 8 t.offset
  pub known : known_kind t.kind ≡ true
  pub whole : whole_blocks (first_length (lengths t.shape)) t.kind ≡ true
  pub products : products_fit (lengths t.shape) ≡ true
  pub size : size_within (lengths t.shape) t.kind ≡ true
  pub measured : t.size ≡ size_of (lengths t.shape) t.kind
  pub total : before + product_of (lengths t.shape) ≤ greatest

-- the total after a tensor
abbrev pub total_with : ℕ → TensorContent → ℕ
total_with total t = total + product_of (lengths t.shape)
