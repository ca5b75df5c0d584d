-- What the steps that read a tensor again are held to. No contract of a step that tests cites it.
use Rattle.std.specs.Prelude.{ℕ, ◌+◌, ◌*◌, Bool, false, List, ltb, take, drop, if◌then◌else◌}
use Rattle.reading.specs.Reading.{Reading, done, ◌>>=◌, here}
use Rattle.fields.specs.Value.{value}
use Rattle.kinds.specs.Shape.{product_of, size_of}
use Rattle.tensors.specs.Format.{lengths, shape, kind_and_offset}
use Rattle.values.specs.declared.Dialect.{Dialect}
use Rattle.tensors.specs.declared.Shape.{Shape}
use Rattle.values.specs.declared.Span.{Span}
use Rattle.tensors.specs.declared.Tensor.{Tensor}
use Rattle.tensors.specs.declared.AfterName.{AfterName}

-- the length i of a shape of n dimensions, of which the first stands at p: beyond those it is 1
abbrev pub length_in : List ℕ → ℕ → Bool → ℕ → ℕ → ℕ
length_in s p big n i = if ltb i n then value big (take 8 (drop (p + 8 * i) s)) else 1

-- the shape of n dimensions, of which the first length stands at p
abbrev pub shape_in : List ℕ → ℕ → Bool → ℕ → Shape
shape_in s p big n =
    record { dimensions = n; first = length_in s p big n 0; second = length_in s p big n 1; third = length_in s p big n 2; fourth = length_in s p big n 3 }

-- a dialect of this version and byte order: no tensor depends on the magic
abbrev pub in_order_of : ℕ → Bool → Dialect
in_order_of version big = record { version = version; big = big; turned = false }

-- what stands after a tensor's name, which is the same in each version, and the place after it
unfoldable pub after_name : Bool → Reading AfterName
after_name big = do
  x ← shape (in_order_of 3 big)
  y ← kind_and_offset (in_order_of 3 big)
  q ← here
  done (record { shape = x; kind = y.kind; offset = y.offset; next = q })

-- the tensor of a name and of what stands after it
abbrev pub tensor_of : Span → AfterName → Tensor
tensor_of a x =
    record { name = a; shape = x.shape; kind = x.kind; offset = x.offset; parameters = product_of (lengths x.shape); size = size_of (lengths x.shape) x.kind }
