-- What is read is told in full by what reads back: the size of a tensor is that of its shape and
-- kind, and it is exact. Assumes nothing.
use Prim.Native.Nat.{ℕ}
use mathlib.Core.Path.{◌≡◌, refl, ◌∙◌}
use mathlib.Core.Bool.{true}
use mathlib.Core.List.{List, [], ◌∷◌}
use lib.ListN.{length, take}
use Rattle.reading.specs.Back.{Along, All, Sure}
use Rattle.reading.specs.Reading.{accepted}
use Rattle.reading.specs.declared.Limits.{Limits}
use Rattle.reading.proofs.Onward.{all_so}
use Rattle.reading.proofs.SureLaws.{sure_then, sure_here, sure_each, sure_under, whatever}
use Rattle.kinds.specs.Shape.{first_length, whole_blocks, product_of, size_of}
use Rattle.kinds.proofs.WholeBlocks.{whole-exact, size_exact, size_of_lines}
use Rattle.values.specs.declared.Dialect.{Dialect}
use Rattle.tensors.specs.declared.Tensor.{Tensor}
use Rattle.tensors.specs.Format.{lengths, tensor, total_of}
use Rattle.tensors.specs.Rows.{tensor_row}
use Rattle.tensors.proofs.Fitting.{sure_fitting}
use Rattle.start.specs.declared.Rooms.{Rooms}
use Rattle.header.specs.declared.Header.{Header}
use Rattle.header.specs.Answers.{reader_run, reader_outcome}
use Rattle.header.specs.Format.{FullHeader, header}
use Rattle.header.proofs.Judged.{sure_judged}
use Rattle.header.proofs.TableRows.{tensor-rows}
use Rattle.promises.specs.Sizes.{ExactRow}

-- a tensor whose first length is whole blocks, and whose numbers and bytes are those that its shape
-- and kind come to
pub record Measured (t : Tensor) : Type 0 where
  pub whole : whole_blocks (first_length (lengths t.shape)) t.kind ≡ true
  pub parameters : t.parameters ≡ product_of (lengths t.shape)
  pub size : t.size ≡ size_of (lengths t.shape) t.kind

-- what holds of each, whatever the state, holds of all
each_alone : {S A : Type 0} (P : A → Type 0) (f : S → A → S) (l : List A) (z : S) → Along (λ y. P) f z l → All P l
each_alone P f [] z h = tt
each_alone P f (a ∷ l) z h = (h.0, each_alone P f l (f z a) h.1)

module _ (s : List ℕ) where
  sure_measured : (k : Dialect) (total p : ℕ) → Sure s (tensor k total) p (λ t q. Measured t)
  unfolding tensor
  sure_measured k total p =
      sure_here _ (sure_then whatever (λ name q u. sure_then whatever (λ x r v. sure_then whatever (λ y o w.
      sure_fitting p total name x y (λ tested. record { whole = tested.whole; parameters = refl; size = refl })))))

  -- a header: its tensors are measured
  sure_whole : (rooms : Rooms) (cap p : ℕ) → Sure s (header rooms cap) p (λ w q. All Measured w.tensors)
  unfolding header
  sure_whole rooms cap p =
      sure_then whatever (λ c q u.
      sure_then whatever (λ es r v.
      sure_then (sure_each {P = λ z. Measured} (tensor c.dialect) total_of (λ z. sure_measured c.dialect z) c.tensors 0 r) (λ ts o h.
      sure_here _ (sure_judged c es ts o (λ tested. each_alone Measured total_of ts 0 h.1)))))

-- the row of a measured tensor is exact
exact_row : (t : Tensor) → Measured t → ExactRow (tensor_row t)
exact_row t m =
    let x = t.shape in
    let others = x.second ∷ x.third ∷ x.fourth ∷ [] in
    record {
      whole = m.whole;
      size = rw m.size (size_exact (lengths x) t.kind m.whole);
      line = whole-exact x.first t.kind m.whole;
      lines = m.size ∙ size_of_lines x.first others t.kind m.whole;
    }

module _ (limits : Limits) (cap : ℕ) (es ts : List (List ℕ)) (s : List ℕ) where
  -- whatever the bytes, the ceilings, the cap and the tables are
  pub sizes_read : {w : FullHeader} {q : ℕ} → accepted w q ≡ reader_run limits cap es ts s → All Measured w.tensors
  sizes_read {w} {q} read = (sure_under limits (sure_whole s (record { entries = length es; tensors = length ts }) cap 0)).holds w q read

  -- of the rows that a reader's caller has: where the answer is a header h, as many rows as it counts
  -- tell exact sizes
  pub rows-exact : {h : Header} {q : ℕ} → accepted h q ≡ (reader_outcome limits cap es ts s).answer → All ExactRow (take h.tensors (reader_outcome limits cap es ts s).tensors)
  rows-exact told = tensor-rows limits cap es ts s (λ h. ExactRow) (λ w q read. all_so exact_row w.tensors (sizes_read read)) told
