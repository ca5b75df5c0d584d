-- What is so of the offsets of a header that is accepted: whoever maps its data finds every tensor at
-- a multiple of the alignment.
use Rattle.std.specs.Prelude.{ℕ, ◌+◌, ◌%◌, ◌<◌, ◌≡◌, List}
use Rattle.reading.specs.Back.{All}
use Rattle.rows.specs.Columns.{offset_in}
use Rattle.header.specs.declared.Header.{Header}

-- A tensor's row tells an offset that is a multiple of the header's alignment, and so is the place in
-- the file where its data starts.
pub record AlignedRow (h : Header) (row : List ℕ) : Type 0 where
  pub offset : offset_in row % h.alignment ≡ 0
  pub place : (h.start + offset_in row) % h.alignment ≡ 0

-- The alignment is above 0, the data starts at a multiple of it, and so does every tensor of this
-- list of rows.
pub record OffsetsAligned (h : Header) (list : List (List ℕ)) : Type 0 where
  pub above : 0 < h.alignment
  pub start : h.start % h.alignment ≡ 0
  pub rows : All (AlignedRow h) list
