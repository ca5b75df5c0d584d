-- How many bytes the parts of a header have. Assumes nothing.
use Rattle.std.specs.Prelude.{if◌then◌else◌}
use Prim.Native.Nat.{ℕ, suc, ◌+◌, ◌*◌, ◌≤◌}
use mathlib.Core.Path.{◌≡◌, refl, ap, ◌∙◌}
use mathlib.Core.Bool.{Bool, true, false}
use mathlib.Core.List.{List, [], ◌∷◌, ◌++◌}
use native.Mathlib.Omega.{arith}
use lib.Dec.{eqb, ltb}
use lib.ListN.{length, length-append}
use Rattle.fields.specs.Bytes.{bytes_of}
use Rattle.reading.specs.Back.{bytes_of_all}
use Rattle.fields.proofs.Bytes.{length_bytes_of}
use Rattle.values.specs.declared.Dialect.{Dialect}
use Rattle.tensors.specs.declared.Shape.{Shape}
use Rattle.values.specs.Format.{size_width, depth}
use Rattle.scalars.specs.Scalars.{scalar_width}
use Rattle.values.specs.Contents.{a_scalar, a_text, EntryContent, size_bytes, text_bytes, type_bytes, type_of, value_bytes, entry_bytes}
use Rattle.tensors.specs.Contents.{TensorContent, length_bytes, shape_bytes, kind_and_offset_bytes, tensor_bytes}
use Rattle.start.specs.declared.Start.{Start}
use Rattle.header.specs.Contents.{Contents, header_bytes}
use Rattle.start.specs.Contents.{start_bytes}
use Rattle.sheet.proofs.PartsFound.{eights}

-- a size has 4 bytes or 8
pub size_cases : (k : Dialect) → (4 ≤ size_width k) × (size_width k ≤ 8)
size_cases k = by (eqb k.version 1)
  where
    by : (b : Bool) → (4 ≤ (if b then 4 else 8)) × ((if b then 4 else 8) ≤ 8)
    by true = (omega arith, omega arith)
    by false = (omega arith, omega arith)

-- the length at the place i of n takes eight bytes, and beyond those nothing is written
abbrev eight : ℕ → ℕ → ℕ
eight n i = if ltb i n then 8 else 0

module _ (k : Dialect) where
  pub size-length : (n : ℕ) → length (size_bytes k n) ≡ size_width k
  unfolding size_bytes
  size-length n = length_bytes_of k.big (size_width k) n

  pub type-length : (t : ℕ) → length (type_bytes k t) ≡ 4
  unfolding type_bytes
  type-length t = length_bytes_of k.big 4 t

  pub text-length : (b : List ℕ) → length (text_bytes k b) ≡ size_width k + length b
  unfolding text_bytes
  text-length b = length-append (size_bytes k (length b)) b ∙ ap (λ n. n + length b) (size-length (length b))

  pub one-length : (d t v : ℕ) → length (value_bytes (suc d) k (a_scalar t v)) ≡ scalar_width t
  unfolding value_bytes
  one-length d t v = length_bytes_of k.big (scalar_width t) v

  pub word-length : (d : ℕ) (b : List ℕ) → length (value_bytes (suc d) k (a_text b)) ≡ size_width k + length b
  unfolding value_bytes
  word-length d b = text-length b

  -- a key, a type and a value
  pub entry-size : (b : List ℕ) (t : ℕ) (l : List ℕ) → length (text_bytes k b ++ type_bytes k t ++ l) ≡ size_width k + length b + 4 + length l
  entry-size b t l = length-append (text_bytes k b ++ type_bytes k t) l ∙ rw (length-append (text_bytes k b) (type_bytes k t), text-length b, type-length t)

  pub entry_length : (e : EntryContent) → length (entry_bytes k e) ≡ size_width k + 4 + length e.key + length (value_bytes (suc depth) k e.value)
  unfolding entry_bytes
  entry_length e = entry-size e.key (type_of e.value) (value_bytes (suc depth) k e.value) ∙ omega arith

  -- a length of a shape
  one_more : (n i v : ℕ) → length (length_bytes k n i v) ≡ eight n i
  unfolding length_bytes
  one_more n i v = by (ltb i n)
    where
      by : (b : Bool) → length (if b then bytes_of k.big 8 v else []) ≡ (if b then 8 else 0)
      by true = length_bytes_of k.big 8 v
      by false = refl

  pub shape-length : (x : Shape) → length (shape_bytes k x) ≡ 4 + eight x.dimensions 0 + eight x.dimensions 1 + eight x.dimensions 2 + eight x.dimensions 3
  unfolding shape_bytes
  shape-length x =
      rw (length-append, length-append, length-append, length-append, type-length, one_more, one_more, one_more, one_more)

  pub stored-length : (t o : ℕ) → length (kind_and_offset_bytes k t o) ≡ 12
  unfolding kind_and_offset_bytes
  stored-length t o = length-append (type_bytes k t) (bytes_of k.big 8 o) ∙ rw (type-length t, length_bytes_of k.big 8 o)

  pub tensor-length : (t : TensorContent) → let n = t.shape.dimensions in
      length (tensor_bytes k t) ≡ size_width k + length t.name + (4 + eight n 0 + eight n 1 + eight n 2 + eight n 3) + 12
  unfolding tensor_bytes
  tensor-length t =
      length-append (text_bytes k t.name ++ shape_bytes k t.shape) (kind_and_offset_bytes k t.kind t.offset)
      ∙ rw (length-append (text_bytes k t.name) (shape_bytes k t.shape), text-length t.name, shape-length t.shape, stored-length t.kind t.offset)

  -- eight bytes for each of up to four
  pub tensor-eights : (t : TensorContent) → t.shape.dimensions ≤ 4 → length (tensor_bytes k t) ≡ size_width k + 16 + 8 * t.shape.dimensions + length t.name
  tensor-eights t few = tensor-length t ∙ omega (arith, eights t.shape.dimensions few)

-- what stands before the first record
pub start-length : (c : Start) → length (start_bytes c) ≡ 8 + size_width c.dialect + size_width c.dialect
unfolding start_bytes
start-length c =
    rw (length-append, length-append, length-append, length_bytes_of, length_bytes_of, size-length, size-length)

pub header-length : (k : Dialect) (c : Contents) → length (header_bytes k c) ≡ 8 + size_width k + size_width k + length (bytes_of_all (entry_bytes k) c.entries) + length (bytes_of_all (tensor_bytes k) c.tensors)
unfolding header_bytes
header-length k c =
    rw (length-append, length-append, start-length)

-- one record more
pub rows_more : {C : Type 0} (enc : C → List ℕ) (c : C) (cs : List C) → length (bytes_of_all enc (c ∷ cs)) ≡ length (enc c) + length (bytes_of_all enc cs)
unfolding bytes_of_all
rows_more enc c cs = length-append (enc c) (bytes_of_all enc cs)

pub rows_none : {C : Type 0} (enc : C → List ℕ) → length (bytes_of_all enc []) ≡ 0
unfolding bytes_of_all
rows_none enc = refl
