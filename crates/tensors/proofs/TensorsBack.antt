-- What is written of a tensor is read back: each part by the laws of its fields. Assumes nothing.
use Rattle.std.specs.Prelude.{if◌then◌else◌}
use Prim.Native.Nat.{ℕ, ◌+◌}
use mathlib.Core.Path.{◌≡◌, refl, sym, ap}
use mathlib.Core.List.{List, [], ◌∷◌, ◌++◌, map, append_assoc}
use mathlib.Core.Bool.{Bool, true, false}
use native.Mathlib.Omega.{arith}
use lib.ListN.{length}
use lib.Dec.{ltb}
use borrow.Author.Tests.{le-leb, ltb-false}
use Rattle.reading.specs.Back.{same, Back, Along, bytes_of_all}
use Rattle.fields.specs.Bytes.{bytes_of, Within}
use Rattle.reading.specs.Each.{each}
use Rattle.reading.specs.Reading.{done}
use Rattle.tensors.specs.Format.{lengths, length_at, lengths_of, shape, kind_and_offset, tensor, total_of}
use Rattle.fields.specs.Value.{number}
use Rattle.reading.proofs.BackLaws.{follows, ends, exactly, closes, at_place, nothing_more, marked-then, checked, then-shown}
use Rattle.fields.proofs.NumberFields.{number-back}
use Rattle.kinds.specs.Shape.{product_of}
use Rattle.kinds.specs.Table.{known_kind}
use Rattle.tensors.specs.Contents.{TensorContent, length_bytes, shape_bytes, kind_and_offset_bytes, tensor_bytes, tensor_content, FitsLength, FitsShape, FitsTensor, total_with}
use Rattle.values.specs.Contents.{type_bytes}
use Rattle.values.specs.declared.Dialect.{Dialect}
use Rattle.tensors.specs.declared.Shape.{Shape}
use Rattle.tensors.specs.declared.Tensor.{Tensor}
use Rattle.values.proofs.ValuesBack.{text-back}

-- a tensor, and the product of its lengths
record Weighed : Type 0 where
  weight : TensorContent
  parameters : ℕ

abbrev weighed : TensorContent → Weighed
weighed c = record { weight = c; parameters = product_of (lengths c.shape) }

abbrev weighed_of : List ℕ → Tensor → Weighed
weighed_of s t = record { weight = tensor_content s t; parameters = t.parameters }

module _ (k : Dialect) {s : List ℕ} where
  -- the length at a place, and none beyond the count
  length_cases : (b : Bool) (v : ℕ) → Within 8 v → (b ≡ false → v ≡ 1) → (p : ℕ) → Back s same (if b then number 8 k.big else done 1) p (if b then bytes_of k.big 8 v else []) v
  length_cases true v fits beyond p = number-back 8 k.big v p fits
  length_cases false v fits beyond p = nothing_more (sym (beyond refl))

  length_back : (n i v : ℕ) → FitsLength n i v → (p : ℕ) → Back s same (length_at k n i) p (length_bytes k n i v) v
  unfolding length_at length_bytes
  length_back n i v fits p = length_cases (ltb i n) v fits.within (λ e. fits.beyond (ltb-false i n e)) p

  lengths-back : (x : Shape) → FitsShape x → (p : ℕ) → Back s same (lengths_of k x.dimensions) p
      (length_bytes k x.dimensions 0 x.first ++ (length_bytes k x.dimensions 1 x.second ++ (length_bytes k x.dimensions 2 x.third ++ length_bytes k x.dimensions 3 x.fourth))) x
  unfolding lengths_of
  lengths-back x fits p =
      let n = x.dimensions in
      exactly _ (length_back n 0 x.first fits.first _) (exactly _ (length_back n 1 x.second fits.second _)
      (exactly _ (length_back n 2 x.third fits.third _) (closes _ (length_back n 3 x.fourth fits.fourth _) (nothing_more refl))))

  pub shape-back : (x : Shape) → FitsShape x → (p : ℕ) → Back s same (shape k) p (shape_bytes k x) x
  unfolding shape shape_bytes type_bytes
  shape-back x fits p =
      let n = x.dimensions in
      simp append_assoc (at_place _ (exactly _ (number-back 4 k.big n p (omega (arith, fits.few))) (checked 10 p (le-leb n 4 fits.few) (lengths-back x fits _))))

  pub stored_back : (t o : ℕ) → Within 4 t → Within 8 o → known_kind t ≡ true → (p : ℕ) → Back s same (kind_and_offset k) p (kind_and_offset_bytes k t o) (record { kind = t; offset = o })
  unfolding kind_and_offset kind_and_offset_bytes type_bytes
  stored_back t o i j e p =
      at_place _ (exactly _ (number-back 4 k.big t p i) (closes _ (number-back 8 k.big o _ j)
      (checked 11 p e (marked-then _ _ _ _ (nothing_more refl)))))

  -- a tensor, with the product of its lengths
  weighed-back : (total : ℕ) (c : TensorContent) → FitsTensor total c → (p : ℕ) → Back s (weighed_of s) (tensor k total) p (tensor_bytes k c) (weighed c)
  unfolding tensor tensor_bytes
  weighed-back total c fits p =
      simp append_assoc (at_place _ (follows (text-back k c.name fits.name p) (λ a e.
      exactly _ (shape-back c.shape fits.shape _) (closes _ (stored_back c.kind c.offset fits.kind fits.offset fits.known _)
      (checked 17 p fits.whole (checked 13 p fits.products (checked 14 p fits.size (checked 15 p (le-leb _ _ fits.total) (nothing_more (rw (e, fits.measured)))))))))))

  pub tensor-back : (total : ℕ) (c : TensorContent) → FitsTensor total c → (p : ℕ) → Back s (tensor_content s) (tensor k total) p (tensor_bytes k c) c
  tensor-back total c fits p = then-shown (λ w. w.weight) (weighed-back total c fits p)

  pub tensors-back : (cs : List TensorContent) (total : ℕ) → Along FitsTensor total_with total cs → (p : ℕ)
      → Back s (map (tensor_content s)) (each (tensor k) total_of (length cs) total) p (bytes_of_all (tensor_bytes k) cs) cs
  unfolding each bytes_of_all
  tensors-back [] total fits p = nothing_more refl
  tensors-back (c ∷ cs) total fits p =
      follows (weighed-back total c fits.0 p) (λ a e.
      let i : a.parameters ≡ product_of (lengths c.shape) = ap (λ (w : Weighed). w.parameters) e in
      let j : tensor_content s a ≡ c = ap (λ (w : Weighed). w.weight) e in
      let more : Back s (map (tensor_content s)) (each (tensor k) total_of (length cs) (total_of total a)) (p + length (tensor_bytes k c)) (bytes_of_all (tensor_bytes k) cs) cs =
      rw i (tensors-back cs (total_with total c) fits.1 _) in
      ends _ more (λ r e'. cc))
