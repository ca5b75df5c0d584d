-- The kinds of tensor data: how many numbers a block of each holds, and how many bytes the block
-- takes.
use Rattle.std.specs.Prelude.{ℕ, Bool, List, [], ◌∷◌, ltb, get_or}
use Rattle.kinds.specs.declared.Block.{Block}

-- a block of so many numbers in so many bytes
abbrev pub block : ℕ → ℕ → Block
block n b = record { numbers = n; bytes = b }

-- a number that names no kind: its block holds nothing
abbrev pub no_such_kind : Block
no_such_kind = block 0 0

-- kinds 0 to 39, in order. Blocks that take bytes are as ggml's own table of types has them; kinds
-- whose blocks take none are read and never written
abbrev pub kind_table : List Block
kind_table =
    block 1 4 ∷ block 1 2 ∷ block 32 18 ∷ block 32 20 ∷ no_such_kind ∷ no_such_kind ∷ block 32 22 ∷ block 32 24 ∷ block 32 34 ∷ block 32 36 ∷
    block 256 84 ∷ block 256 110 ∷ block 256 144 ∷ block 256 176 ∷ block 256 210 ∷ block 256 292 ∷ block 256 66 ∷ block 256 74 ∷ block 256 98 ∷ block 256 50 ∷
    block 32 18 ∷ block 256 110 ∷ block 256 82 ∷ block 256 136 ∷ block 1 1 ∷ block 1 2 ∷ block 1 4 ∷ block 1 8 ∷ block 1 8 ∷ block 256 56 ∷
    block 1 2 ∷ block 256 0 ∷ block 256 0 ∷ block 256 0 ∷ block 256 54 ∷ block 256 66 ∷ block 256 0 ∷ block 256 0 ∷ block 256 0 ∷ block 32 17 ∷ []

-- the block of a kind
unfoldable pub block_of : ℕ → Block
block_of k = get_or kind_table k no_such_kind

-- whether a number names a kind (refusal 11 where it does not)
abbrev pub known_kind : ℕ → Bool
known_kind k = ltb 0 (block_of k).numbers

-- whether a kind is written (refusal 35 where it is not)
abbrev pub written_kind : ℕ → Bool
written_kind k = ltb 0 (block_of k).bytes
