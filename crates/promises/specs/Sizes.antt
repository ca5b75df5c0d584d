-- What is so of the sizes that a reader's rows tell: nothing in them is rounded. A line of a tensor
-- is as many numbers as its first length says; ggml calls it a row.
use Rattle.std.specs.Prelude.{ℕ, ◌*◌, ◌≡◌, true, List, [], ◌∷◌}
use Rattle.rows.specs.Columns.{kind_in, first_length_in, second_length_in, third_length_in, fourth_length_in, size_in}
use Rattle.kinds.specs.Table.{block_of}
use Rattle.kinds.specs.Shape.{whole_blocks, product_of, bytes_for}

-- the product of a tensor's lengths but the first, by its row: how many lines it has
abbrev pub lines_in : List ℕ → ℕ
lines_in row = product_of (second_length_in row ∷ third_length_in row ∷ fourth_length_in row ∷ [])

-- the product of all four: how many numbers it has
abbrev pub numbers_in : List ℕ → ℕ
numbers_in row = product_of (first_length_in row ∷ second_length_in row ∷ third_length_in row ∷ fourth_length_in row ∷ [])

-- A tensor's row tells an exact size: its first length is whole blocks of its kind; the size times a
-- block's numbers is the tensor's numbers times a block's bytes; a line is whole bytes, likewise; and
-- the size is that of a line as often as there are lines.
pub record ExactRow (row : List ℕ) : Type 0 where
  pub whole : whole_blocks (first_length_in row) (kind_in row) ≡ true
  pub size : size_in row * (block_of (kind_in row)).numbers ≡ numbers_in row * (block_of (kind_in row)).bytes
  pub line : bytes_for (first_length_in row) (kind_in row) * (block_of (kind_in row)).numbers ≡ first_length_in row * (block_of (kind_in row)).bytes
  pub lines : size_in row ≡ lines_in row * bytes_for (first_length_in row) (kind_in row)
