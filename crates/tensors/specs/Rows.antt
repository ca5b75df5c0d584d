-- A tensor as a row of ten words (crates/rows names the columns).
use Rattle.std.specs.Prelude.{ℕ, List, [], ◌∷◌}
use Rattle.tensors.specs.declared.Tensor.{Tensor}

-- the name's place and length, kind, dimension count, four lengths, offset, size
abbrev pub tensor_row : Tensor → List ℕ
tensor_row t =
    t.name.place ∷ t.name.len ∷ t.kind ∷ t.shape.dimensions ∷ t.shape.first ∷ t.shape.second ∷ t.shape.third ∷ t.shape.fourth ∷ t.offset ∷ t.size ∷ []
