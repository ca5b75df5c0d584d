-- What any placement of tensors has to keep, ours or another: their order, the alignment, and the
-- bytes of each.
use Rattle.std.specs.Prelude.{ℕ, ◌+◌, ◌≤◌, ◌≡◌, Bool, true, false, ◌&&◌, List, [], ◌∷◌, leb, get_or}
use Rattle.kinds.specs.Shape.{size_of}
use Rattle.layout.specs.Layout.{Piece}
use Rattle.layout.specs.Padding.{is_multiple}

-- the bytes of a tensor
abbrev pub piece_size : Piece → ℕ
piece_size p = size_of p.lengths p.kind

-- whether tensors of these sizes may start there, in order: each start is a multiple of a, and not
-- before the end of the tensor before it; the first is not before n
abbrev pub may_start_after : ℕ → ℕ → (sizes starts : List ℕ) → Bool
may_start_after a n [] [] = true
may_start_after a n [] (start ∷ starts) = false
may_start_after a n (size ∷ sizes) [] = false
may_start_after a n (size ∷ sizes) (start ∷ starts) = is_multiple a start && leb n start && may_start_after a (start + size) sizes starts

-- a placement: starts for all of them, from 0 on
abbrev pub is_placement : ℕ → (sizes starts : List ℕ) → Bool
is_placement a sizes starts = may_start_after a 0 sizes starts

-- Offsets for tensors of these sizes that are as early as can be: they are a placement, and no
-- placement starts any tensor earlier.
pub record Earliest (a : ℕ) (sizes offsets : List ℕ) : Type 0 where
  pub placed : is_placement a sizes offsets ≡ true
  pub least : (starts : List ℕ) → is_placement a sizes starts ≡ true → (i : ℕ) → get_or offsets i 0 ≤ get_or starts i 0
