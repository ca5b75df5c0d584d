-- Where tensors go, from the public GGUF document: the first offset is 0, each next one is the
-- least multiple of the alignment that is not below the end of the tensor before it, and the last
-- end is padded too. Every number on the way must fit 64 bits.
use Rattle.std.specs.Prelude.{ℕ, suc, ◌+◌, List, [], ◌∷◌, leb, Result, Ok, Err}
use Rattle.reading.specs.Choice.{require}
use Rattle.kinds.specs.Table.{written_kind}
use Rattle.kinds.specs.Shape.{greatest, first_length, whole_blocks, product_of, products_fit, size_within, size_of}
use Rattle.layout.specs.Padding.{padded}
use Rattle.layout.specs.declared.Laid.{Laid}
use Rattle.layout.specs.declared.Placed.{Placed}

-- what is laid before the first tensor: nothing
abbrev pub nothing_laid : Laid
nothing_laid = record { total = 0; next = 0 }

-- where a tensor ends that is laid next
abbrev pub end_after : Laid → List ℕ → ℕ → ℕ
end_after laid shape kind = laid.next + size_of shape kind

-- what is laid after it
abbrev pub laid_after : ℕ → Laid → List ℕ → ℕ → Laid
laid_after a laid shape kind = record { total = laid.total + product_of shape; next = padded a (end_after laid shape kind) }

-- the place of the next tensor, at the alignment a, of a shape and a kind: the tests in their
-- order, and what is laid then
unfoldable pub place_of : ℕ → Laid → List ℕ → ℕ → Result Placed ℕ
place_of a laid shape kind =
    require (written_kind kind) (Err 35)
    (require (whole_blocks (first_length shape) kind) (Err 17)
    (require (products_fit shape) (Err 13)
    (require (size_within shape kind) (Err 14)
    (require (leb (laid.total + product_of shape) greatest) (Err 15)
    (require (leb (end_after laid shape kind) greatest) (Err 36)
    (require (leb (padded a (end_after laid shape kind)) greatest) (Err 36)
    (Ok (record { offset = laid.next; size = size_of shape kind; laid = laid_after a laid shape kind }))))))))

-- a tensor that is to be laid
pub record Piece : Type 0 where
  pub lengths : List ℕ
  pub kind : ℕ

-- what a list of them comes to: the offset of each and what is laid at the end, or the refusal and
-- the number of its tensor
pub data Layout : Type 0 where
  laid_out_from : List ℕ → Laid → Layout
  refused_at : ℕ → ℕ → Layout

-- an offset before those of the rest
abbrev pub ahead : ℕ → Layout → Layout
ahead offset (laid_out_from offsets laid) = laid_out_from (offset ∷ offsets) laid
ahead offset (refused_at why i) = refused_at why i

-- the answer for the tensor i, and then the rest
abbrev pub followed_by : Result Placed ℕ → ℕ → (Laid → Layout) → Layout
followed_by (Ok p) i rest = ahead p.offset (rest p.laid)
followed_by (Err why) i rest = refused_at why i

-- tensors in order, counted from i, after what is laid
unfoldable pub layout_from : ℕ → Laid → ℕ → List Piece → Layout
layout_from a laid i [] = laid_out_from [] laid
layout_from a laid i (p ∷ pieces) = followed_by (place_of a laid p.lengths p.kind) i (λ after. layout_from a after (suc i) pieces)

-- a whole list: from nothing, counted from 0
abbrev pub layout_of : ℕ → List Piece → Layout
layout_of a pieces = layout_from a nothing_laid 0 pieces
