-- Worked questions for a tensor, computed by the checker. Assumes nothing.
use Rattle.std.specs.Prelude.{Some, None}
use Prim.Native.Nat.{ℕ}
use mathlib.Core.Path.{◌≡◌, refl}
use mathlib.Core.List.{List, [], ◌∷◌, ◌++◌}
use lib.ListN.{length, take}
use Rattle.reading.specs.Replies.{refuses}
use Rattle.reading.specs.Each.{each}
use Rattle.reading.specs.Reading.{run, here, ◌>>=◌}
use Rattle.fields.specs.Value.{number}
use Rattle.kinds.specs.Table.{block_of}
use Rattle.values.specs.Format.{size, text_looking}
use Rattle.tensors.specs.Format.{length_at, lengths_of, shape, kind_and_offset}
use Rattle.tensors.specs.declared.Tensor.{Tensor}
use Rattle.start.specs.Format.{magic, version, counts, start}
use Rattle.lookup.specs.Search.{seek}
use Rattle.lookup.specs.Tensors.{searched, looked_name, looked_tensor, first_tensor, tensor_lookup}

-- version 1, n tensors and no entries
abbrev file_of : ℕ → List ℕ → List ℕ
file_of n records = 71 ∷ 71 ∷ 85 ∷ 70 ∷ 1 ∷ 0 ∷ 0 ∷ 0 ∷ n ∷ 0 ∷ 0 ∷ 0 ∷ 0 ∷ 0 ∷ 0 ∷ 0 ∷ records

-- the bytes of a tensor of one length: its name, length, kind and offset
abbrev tensor_of : List ℕ → ℕ → ℕ → ℕ → List ℕ
tensor_of name n k o =
    length name ∷ 0 ∷ 0 ∷ 0 ∷ (name ++ (
    1 ∷ 0 ∷ 0 ∷ 0 ∷ n ∷ 0 ∷ 0 ∷ 0 ∷ 0 ∷ 0 ∷ 0 ∷ 0 ∷ k ∷ 0 ∷ 0 ∷ 0 ∷ o ∷ 0 ∷ 0 ∷ 0 ∷ 0 ∷ 0 ∷ 0 ∷ 0 ∷ []))

-- such a tensor: its name's place and length, its length, kind, offset and size
abbrev flat : ℕ → ℕ → ℕ → ℕ → ℕ → ℕ → Tensor
flat p l n k o b = record {
  name = record { place = p; len = l };
  shape = record { dimensions = 1; first = n; second = 1; third = 1; fourth = 1 };
  kind = k;
  offset = o;
  parameters = n;
  size = b;
}

-- "a", "b" and "c"
abbrev a : List ℕ
a = 97 ∷ []

abbrev b : List ℕ
b = 98 ∷ []

abbrev c : List ℕ
c = 99 ∷ []

-- a, five numbers of kind 0, and b, three of kind 1
abbrev both : List ℕ
both = file_of 2 (tensor_of a 5 0 0 ++ tensor_of b 3 1 32)

pub asked_for_a : tensor_lookup a both ≡ searched (Some (flat 20 1 5 0 0 20)) 1
unfolding run here ◌>>=◌ each number size text_looking shape lengths_of length_at kind_and_offset block_of magic version counts start seek looked_name looked_tensor first_tensor
asked_for_a = refl

pub asked_for_b : tensor_lookup b both ≡ searched (Some (flat 49 1 3 1 32 6)) 2
unfolding run here ◌>>=◌ each number size text_looking shape lengths_of length_at kind_and_offset block_of magic version counts start seek looked_name looked_tensor first_tensor
asked_for_b = refl

-- c is not there: all of them were passed
pub asked_for_c : tensor_lookup c both ≡ searched None 2
unfolding run here ◌>>=◌ each number size text_looking shape lengths_of length_at kind_and_offset block_of magic version counts start seek looked_name looked_tensor first_tensor
asked_for_c = refl

-- the bytes up to the end of a are enough for a, and one less is not
pub up_to_a : tensor_lookup a (take 45 both) ≡ searched (Some (flat 20 1 5 0 0 20)) 1
unfolding run here ◌>>=◌ each number size text_looking shape lengths_of length_at kind_and_offset block_of magic version counts start seek looked_name looked_tensor first_tensor
up_to_a = refl

pub cut_in_a : tensor_lookup a (take 44 both) ≡ refuses 1 37
unfolding run here ◌>>=◌ each number size text_looking shape lengths_of length_at kind_and_offset block_of magic version counts start seek looked_name looked_tensor first_tensor
cut_in_a = refl

-- of two tensors of one name the first is found
pub same_names : tensor_lookup a (file_of 2 (tensor_of a 5 0 0 ++ tensor_of a 3 1 32)) ≡ searched (Some (flat 20 1 5 0 0 20)) 1
unfolding run here ◌>>=◌ each number size text_looking shape lengths_of length_at kind_and_offset block_of magic version counts start seek looked_name looked_tensor first_tensor
same_names = refl

-- b of a kind that is none: a, before it, is found; b itself, and c, get its refusal
abbrev bad_last : List ℕ
bad_last = file_of 2 (tensor_of a 5 0 0 ++ tensor_of b 3 40 32)

pub bad-after : tensor_lookup a bad_last ≡ searched (Some (flat 20 1 5 0 0 20)) 1
unfolding run here ◌>>=◌ each number size text_looking shape lengths_of length_at kind_and_offset block_of magic version counts start seek looked_name looked_tensor first_tensor
bad-after = refl

pub itself_bad : tensor_lookup b bad_last ≡ refuses 11 62
unfolding run here ◌>>=◌ each number size text_looking shape lengths_of length_at kind_and_offset block_of magic version counts start seek looked_name looked_tensor first_tensor
itself_bad = refl

pub bad-and_absent : tensor_lookup c bad_last ≡ refuses 11 62
unfolding run here ◌>>=◌ each number size text_looking shape lengths_of length_at kind_and_offset block_of magic version counts start seek looked_name looked_tensor first_tensor
bad-and_absent = refl

-- a of such a kind: b, after it, gets its refusal
pub bad-before : tensor_lookup b (file_of 2 (tensor_of a 5 40 0 ++ tensor_of b 3 1 32)) ≡ refuses 11 33
unfolding run here ◌>>=◌ each number size text_looking shape lengths_of length_at kind_and_offset block_of magic version counts start seek looked_name looked_tensor first_tensor
bad-before = refl

-- a name of no bytes: it is no other name's beginning, and a tensor may have it
pub no_bytes : tensor_lookup [] both ≡ searched None 2
unfolding run here ◌>>=◌ each number size text_looking shape lengths_of length_at kind_and_offset block_of magic version counts start seek looked_name looked_tensor first_tensor
no_bytes = refl

pub named-by-none : tensor_lookup [] (file_of 2 (tensor_of a 5 0 0 ++ tensor_of [] 3 1 32)) ≡ searched (Some (flat 49 0 3 1 32 6)) 2
unfolding run here ◌>>=◌ each number size text_looking shape lengths_of length_at kind_and_offset block_of magic version counts start seek looked_name looked_tensor first_tensor
named-by-none = refl

-- "ab" is not "a", though it begins so
pub longer-name : tensor_lookup a (file_of 2 (tensor_of (97 ∷ 98 ∷ []) 5 0 0 ++ tensor_of a 3 1 32)) ≡ searched (Some (flat 50 1 3 1 32 6)) 2
unfolding run here ◌>>=◌ each number size text_looking shape lengths_of length_at kind_and_offset block_of magic version counts start seek looked_name looked_tensor first_tensor
longer-name = refl

-- an offset that is no multiple of the alignment is not noticed
pub misaligned : tensor_lookup b (file_of 2 (tensor_of a 5 0 0 ++ tensor_of b 3 1 33)) ≡ searched (Some (flat 49 1 3 1 33 6)) 2
unfolding run here ◌>>=◌ each number size text_looking shape lengths_of length_at kind_and_offset block_of magic version counts start seek looked_name looked_tensor first_tensor
misaligned = refl
