-- What more bytes may change: nothing, once the answer of a call is any other than refusal 1.
-- Assumes nothing.
use Rattle.std.specs.Prelude.{Result}
use Prim.Native.Nat.{ℕ}
use mathlib.Core.Path.{◌≡◌, sym, ap, subst, ◌∙◌}
use mathlib.Core.List.{List, ◌++◌}
use lib.ListN.{length}
use lib.Dec.{T}
use Rattle.reading.specs.Ceilings.{under}
use Rattle.reading.specs.Reading.{refused, run, seen, final}
use Rattle.reading.specs.declared.Limits.{Limits}
use Rattle.reading.proofs.Repetition.{seen-refused}
use Rattle.reading.proofs.RunLaws.{stable, final-run, other_than-1}
use Rattle.start.specs.declared.Rooms.{Rooms}
use Rattle.header.specs.Answers.{Outcome, CameTo, as_header, reader_run, outcome_of, reader_outcome}
use Rattle.header.specs.Format.{FullHeader, header}
use Rattle.reading.specs.declared.Refusal.{Refusal}
use Rattle.header.specs.declared.Header.{Header}

-- Two calls of `measure`, with equal ceilings, rooms and cap: one over the bytes s, and one over
-- longer bytes that begin with them.
module _ (limits : Limits) (rooms : Rooms) (cap : ℕ) (s t : List ℕ) (sure : T (final (seen (λ (w : FullHeader). w.head) (run (under limits (header rooms cap)) s 0)))) where
  run-stays : run (under limits (header rooms cap)) (s ++ t) 0 ≡ run (under limits (header rooms cap)) s 0
  run-stays = stable (under limits (header rooms cap)) s t 0 (final-run (λ (w : FullHeader). w.head) (run (under limits (header rooms cap)) s 0) sure)

  -- unless the first is refused 1, the second answers the same
  pub measure_stays : seen (λ (w : FullHeader). w.head) (run (under limits (header rooms cap)) (s ++ t) 0) ≡ seen (λ (w : FullHeader). w.head) (run (under limits (header rooms cap)) s 0)
  measure_stays = ap (seen (λ w. w.head)) run-stays

-- Two calls of `read`, with equal ceilings, cap and tables.
module _ (limits : Limits) (cap : ℕ) (es ts : List (List ℕ)) (s t : List ℕ) where
  -- unless the first is refused 1, the second comes to the same: its answer, and both tables
  pub stays : T (final (reader_outcome limits cap es ts s).answer) → reader_outcome limits cap es ts (s ++ t) ≡ reader_outcome limits cap es ts s
  stays sure = ap (outcome_of es ts) (run-stays limits _ cap s t sure)

  -- and with other tables of equal room: the same answer, and the same rows in front of them
  pub stays_elsewhere : (es' ts' : List (List ℕ)) → length es' ≡ length es → length ts' ≡ length ts → T (final (reader_outcome limits cap es ts s).answer)
      → reader_outcome limits cap es' ts' (s ++ t) ≡ outcome_of es' ts' (reader_run limits cap es ts s)
  stays_elsewhere es' ts' e f sure = ap (outcome_of es' ts') (rw (e, f) (run-stays limits _ cap s t sure))

  -- a refusal other than 1 stays, with its place, and both tables are as they were before
  pub refusal-stays : {n p : ℕ} → refused n p ≡ (reader_outcome limits cap es ts s).answer → (n ≡ 1 → ⊥)
      → reader_outcome limits cap es ts (s ++ t) ≡ record { answer = refused n p; entries = es; tensors = ts }
  unfolding seen
  refusal-stays e other =
      stays (other_than-1 (reader_outcome limits cap es ts s).answer e other) ∙ ap (outcome_of es ts) (sym (seen-refused _ _ _ _ e))

  -- in terms of the calls: the first gave r and left the tables es₁ and ts₁, and that is what the
  -- second came to
  pub calls_stay : (r r' : Result Header Refusal) {es₁ ts₁ es₂ ts₂ : List (List ℕ)} → CameTo (reader_outcome limits cap es ts s) (as_header r) es₁ ts₁
      → CameTo (reader_outcome limits cap es ts (s ++ t)) (as_header r') es₂ ts₂ → T (final (as_header r))
      → CameTo (record { answer = as_header r; entries = es₁; tensors = ts₁ }) (as_header r') es₂ ts₂
  calls_stay r r' first second sure =
      let same = stays (subst (λ a. T (final a)) first.answer sure) in
      record {
        answer = second.answer ∙ ap (λ (o : Outcome). o.answer) same ∙ sym first.answer;
        entry_rows = second.entry_rows ∙ ap (λ (o : Outcome). o.entries) same ∙ sym first.entry_rows;
        tensor_rows = second.tensor_rows ∙ ap (λ (o : Outcome). o.tensors) same ∙ sym first.tensor_rows;
      }
