-- The product of a shape's lengths, and the bytes of a tensor of that shape and a kind. The first
-- length must be whole blocks, and each number must fit 64 bits.
use Rattle.std.specs.Prelude.{ℕ, ◌*◌, ◌/◌, ◌%◌, ◌^◌, ◌-◌, Bool, true, false, List, [], ◌∷◌, leb, eqb, if◌then◌else◌, Option, Some, None, Result, Ok, Err}
use Rattle.reading.specs.Choice.{require}
use Rattle.kinds.specs.declared.Measure.{Measure}
use Rattle.kinds.specs.Table.{block_of, known_kind, written_kind}

-- the greatest number of 64 bits
abbrev pub greatest : ℕ
greatest = 2 ^ 64 - 1

-- the first length of a shape, and 1 where there is none
abbrev pub first_length : List ℕ → ℕ
first_length [] = 1
first_length (n ∷ shape) = n

-- whether n numbers are whole blocks of a kind (refusal 17 where a first length is not). A kind
-- whose blocks take no bytes has no such test
abbrev pub whole_blocks : ℕ → ℕ → Bool
whole_blocks n k = if written_kind k then eqb (n % (block_of k).numbers) 0 else true

-- x times each length, from the left
abbrev pub product_from : ℕ → List ℕ → ℕ
product_from x [] = x
product_from x (n ∷ l) = product_from (x * n) l

-- whether each of those products fits
abbrev pub products_fit_from : ℕ → List ℕ → Bool
products_fit_from x [] = true
products_fit_from x (n ∷ l) = if leb (x * n) greatest then products_fit_from (x * n) l else false

-- the product of a shape
abbrev pub product_of : List ℕ → ℕ
product_of shape = product_from 1 shape

-- whether each product on the way fits (refusal 13 where one does not)
abbrev pub products_fit : List ℕ → Bool
products_fit shape = products_fit_from 1 shape

-- the bytes of the blocks of a kind, before the division
abbrev pub bytes_before : List ℕ → ℕ → ℕ
bytes_before shape k = product_of shape * (block_of k).bytes

-- whether that fits (refusal 14 where it does not)
abbrev pub size_within : List ℕ → ℕ → Bool
size_within shape k = leb (bytes_before shape k) greatest

-- the bytes of n numbers of a kind. Of whole blocks they are exact: nothing is rounded
-- (`whole-exact`)
abbrev pub bytes_for : ℕ → ℕ → ℕ
bytes_for n k = n * (block_of k).bytes / (block_of k).numbers

-- the size
abbrev pub size_of : List ℕ → ℕ → ℕ
size_of shape k = bytes_for (product_of shape) k

-- what `product` answers
abbrev pub bounded_product : List ℕ → Option ℕ
bounded_product shape = if products_fit shape then Some (product_of shape) else None

-- what `size` answers: an unknown kind first, then the first length, the products, the size
abbrev pub measure_of : List ℕ → ℕ → Result Measure ℕ
measure_of shape k =
    require (known_kind k) (Err 11)
    (require (whole_blocks (first_length shape) k) (Err 17)
    (require (products_fit shape) (Err 13)
    (require (size_within shape k) (Err 14)
    (Ok (record { product = product_of shape; size = size_of shape k })))))
