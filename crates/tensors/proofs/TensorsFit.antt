-- What is accepted fits: whatever tensor a reader accepts can be written. Assumes nothing.
use Prim.Native.Nat.{ℕ, ◌+◌, ◌≤◌}
use mathlib.Core.Path.{◌≡◌, refl, ap}
use mathlib.Core.List.{List, map}
use mathlib.Core.Bool.{true}
use native.Mathlib.Omega.{arith}
use lib.ListN.{length}
use lib.Dec.{leb, ltb}
use borrow.Author.Tests.{leb-true, ltb-true}
use Rattle.reading.specs.Back.{Along, All, Sure}
use Rattle.fields.specs.Bytes.{Byte, Within}
use Rattle.reading.specs.Each.{each}
use Rattle.tensors.specs.Format.{lengths, length_at, lengths_of, shape, kind_and_offset, tensor, total_of}
use Rattle.reading.proofs.SureLaws.{sure_then, sure_done, sure_here, sure_mark, sure_check, sure_if, sure_each, sure_so, along_map}
use Rattle.fields.proofs.NumberFields.{sure_number}
use Rattle.kinds.specs.Shape.{product_of}
use Rattle.kinds.specs.Table.{known_kind}
use Rattle.tensors.specs.Contents.{tensor_content, FitsLength, FitsShape, FitsTensor, total_with}
use Rattle.values.specs.declared.Dialect.{Dialect}
use Rattle.values.proofs.ValuesFit.{sure_text}
use Rattle.tensors.proofs.Fitting.{sure_fitting}

module _ (k : Dialect) (s : List ℕ) (bytes : All Byte s) where
  sure_length : (n i p : ℕ) → Sure s (length_at k n i) p (λ v q. FitsLength n i v)
  unfolding length_at
  sure_length n i p =
      sure_if (ltb i n) _ _ (λ e. sure_so (sure_number s bytes 8 k.big p) (λ v q h. record { within = h; beyond = λ g. absurd (omega (arith, ltb-true i n e)) }))
      (λ e. sure_done (record { within = omega arith; beyond = λ g. refl }))

  pub sure_lengths : (n : ℕ) → n ≤ 4 → (p : ℕ) → Sure s (lengths_of k n) p (λ x q. FitsShape x)
  unfolding lengths_of
  sure_lengths n few p =
      sure_then (sure_length n 0 p) (λ a r f0. sure_then (sure_length n 1 r) (λ b t f1. sure_then (sure_length n 2 t) (λ c u f2. sure_then (sure_length n 3 u) (λ d v f3.
      sure_done (record { few = few; first = f0; second = f1; third = f2; fourth = f3 })))))

  pub sure_shape : (p : ℕ) → Sure s (shape k) p (λ x q. FitsShape x)
  unfolding shape
  sure_shape p = sure_here _ (sure_then (sure_number s bytes 4 k.big p) (λ n q h. sure_check (leb n 4) 10 p _ (λ e. sure_lengths n (leb-true _ _ e) q)))

  pub sure_stored : (p : ℕ) → Sure s (kind_and_offset k) p (λ y q. Within 4 y.kind × Within 8 y.offset × (known_kind y.kind ≡ true))
  unfolding kind_and_offset
  sure_stored p =
      sure_here _ (sure_then (sure_number s bytes 4 k.big p) (λ t q i. sure_then (sure_number s bytes 8 k.big q) (λ o r j.
      sure_check (known_kind t) 11 p _ (λ e. sure_mark _ _ _ _ (sure_done (i, j, e))))))

  -- a tensor, and that its parameters are its product
  pub sure_weighed : (total p : ℕ) → Sure s (tensor k total) p (λ t q. FitsTensor total (tensor_content s t) × (t.parameters ≡ product_of (lengths t.shape)))
  unfolding tensor
  sure_weighed total p =
      sure_here _ (sure_then (sure_text k s bytes p) (λ a q short. sure_then (sure_shape q) (λ x r f. sure_then (sure_stored r) (λ y u g.
      sure_fitting p total a x y (λ tested. (
        record {
          name = short;
          shape = f;
          kind = g.0;
          offset = g.1;
          known = g.2;
          whole = tested.whole;
          products = tested.products;
          size = tested.size;
          measured = refl;
          total = tested.total;
        },
        refl,
      ))))))

  pub sure_tensor : (total p : ℕ) → Sure s (tensor k total) p (λ t q. FitsTensor total (tensor_content s t))
  sure_tensor total p = sure_so (sure_weighed total p) (λ t q h. h.0)

  pub sure_tensors : (n total p : ℕ) → Sure s (each (tensor k) total_of n total) p (λ l q. (length l ≡ n) × Along FitsTensor total_with total (map (tensor_content s) l))
  sure_tensors n total p =
      sure_so (sure_each (tensor k) total_of sure_weighed n total p) (λ l q h.
      (h.0, along_map FitsTensor total_with (tensor_content s) (λ z t g. (g.0, ap (λ m. z + m) g.1)) l total h.1))
