-- Worked tensors, computed by the checker. Assumes nothing.
use mathlib.Core.Bool.{true}
use Rattle.values.specs.declared.Dialect.{Dialect}
use Prim.Native.Nat.{ℕ}
use mathlib.Core.Path.{◌≡◌, refl}
use mathlib.Core.List.{List, [], ◌∷◌}
use Rattle.reading.specs.Reading.{accepted, refused, run, here, ◌>>=◌}
use Rattle.values.specs.Format.{size, text_looking, text}
use Rattle.tensors.specs.Format.{length_at, lengths_of, shape, kind_and_offset, tensor}
use Rattle.fields.specs.Value.{number}
use Rattle.kinds.specs.Table.{block_of}

-- a big-endian file of version 1
abbrev one-big : Dialect
one-big = record { version = 1; big = true; turned = true }

-- the tensor "b" of kind 1 and length 3, at offset 32: six bytes of data
abbrev tensor-b : List ℕ
tensor-b = 0 ∷ 0 ∷ 0 ∷ 1 ∷ 98 ∷ 0 ∷ 0 ∷ 0 ∷ 1 ∷ 0 ∷ 0 ∷ 0 ∷ 0 ∷ 0 ∷ 0 ∷ 0 ∷ 3 ∷ 0 ∷ 0 ∷ 0 ∷ 1 ∷ 0 ∷ 0 ∷ 0 ∷ 0 ∷ 0 ∷ 0 ∷ 0 ∷ 32 ∷ []

pub a-tensor : run (tensor one-big 5) tensor-b 0 ≡ accepted (record {
  name = record { place = 4; len = 1 };
  shape = record { dimensions = 1; first = 3; second = 1; third = 1; fourth = 1 };
  kind = 1;
  offset = 32;
  parameters = 3;
  size = 6;
}) 29
unfolding run ◌>>=◌ here number size text_looking text lengths_of length_at shape kind_and_offset tensor block_of
a-tensor = refl

-- after others whose products come to 2 ^ 64 - 3 the total is too great, at the tensor's start
pub a-total_too_great : run (tensor one-big 18446744073709551613) tensor-b 0 ≡ refused 15 0
unfolding run ◌>>=◌ here number size text_looking text lengths_of length_at shape kind_and_offset tensor block_of
a-total_too_great = refl
