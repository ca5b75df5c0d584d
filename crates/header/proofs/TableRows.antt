-- What holds of every tensor that was read holds of its row, in the table that a reader's caller has.
-- Assumes nothing.
use Prim.Native.Nat.{ℕ}
use mathlib.Core.Path.{◌≡◌, sym, subst, ◌∙◌}
use mathlib.Core.List.{List, map}
use lib.ListN.{length, take, drop, length-map}
use lib.Seq.{take_at}
use Rattle.reading.specs.Back.{All}
use Rattle.reading.specs.Reading.{accepted, seen}
use Rattle.reading.specs.declared.Limits.{Limits}
use Rattle.reading.proofs.Repetition.{seen-accepted}
use Rattle.reading.proofs.SureLaws.{all_map}
use Rattle.tensors.specs.Rows.{tensor_row}
use Rattle.tensors.specs.declared.Tensor.{Tensor}
use Rattle.header.specs.declared.Header.{Header}
use Rattle.header.specs.Answers.{reader_run, outcome_of, reader_outcome}
use Rattle.header.specs.Format.{FullHeader}
use Rattle.header.proofs.Counted.{Counted, counted}

-- of what was read: as many rows as the header counts
pub rows_hold : (Q : List ℕ → Type 0) (es ts : List (List ℕ)) (w : FullHeader) (q : ℕ) → All (λ (t : Tensor). Q (tensor_row t)) w.tensors
    → Counted (record { entries = length es; tensors = length ts }) w → All Q (take w.head.tensors (outcome_of es ts (accepted w q)).tensors)
unfolding seen
rows_hold Q es ts w q all c =
    rw (take_at (map tensor_row w.tensors) (drop (length w.tensors) ts) w.head.tensors (length-map w.tensors tensor_row ∙ c.tensors))
    (all_map Q tensor_row (λ t h. h) w.tensors all)

module _ (limits : Limits) (cap : ℕ) (es ts : List (List ℕ)) (s : List ℕ) where
  -- where the answer is a header h, what Q says of h and of each tensor that was read holds of as many
  -- rows as h counts
  pub tensor-rows : (Q : Header → List ℕ → Type 0) → ((w : FullHeader) (q : ℕ) → accepted w q ≡ reader_run limits cap es ts s → All (λ (t : Tensor). Q w.head (tensor_row t)) w.tensors)
      → {h : Header} {q : ℕ} → accepted h q ≡ (reader_outcome limits cap es ts s).answer → All (Q h) (take h.tensors (reader_outcome limits cap es ts s).tensors)
  tensor-rows Q of {h} {q} told =
      let w = seen-accepted _ _ _ _ told in
      subst (λ (x : Header). All (Q x) (take x.tensors (reader_outcome limits cap es ts s).tensors)) (sym w.2)
      (subst (λ r. All (Q w.0.head) (take w.0.head.tensors (outcome_of es ts r).tensors)) w.1 (rows_hold (Q w.0.head) es ts w.0 q (of w.0 q w.1) (counted limits cap es ts s w.1)))
