-- A table of which only the first part is lent to a reader is filled as if it had been lent whole,
-- with room for as many as the part has. Assumes nothing.
use Rattle.std.specs.Prelude.{Result}
use Prim.Native.Nat.{ℕ, zero, suc, ◌≤◌, min}
use mathlib.Core.Path.{◌≡◌, refl, sym, ap, ◌∙◌}
use mathlib.Core.List.{List, [], ◌∷◌, ◌++◌, map, append_assoc}
use native.Mathlib.Omega.{arith}
use lib.ListN.{length, take, drop, take-append-drop, length-take}
use Rattle.reading.specs.Ceilings.{under}
use Rattle.reading.specs.Each.{filled}
use Rattle.reading.specs.Reading.{Answer, accepted, refused, run, seen}
use Rattle.reading.specs.declared.Limits.{Limits}
use Rattle.values.specs.Rows.{entry_row}
use Rattle.tensors.specs.Rows.{tensor_row}
use Rattle.header.specs.Format.{header, FullHeader}
use Rattle.reading.specs.declared.Refusal.{Refusal}
use Rattle.header.specs.declared.Header.{Header}
use Rattle.header.specs.Answers.{as_header, reader_run}
use Rattle.header.proofs.Counted.{counted}

-- what is left of a part, and what follows the part
dropped : {B : Type 0} (rs : List B) (k d : ℕ) → k ≤ d → drop k (take d rs) ++ drop d rs ≡ drop k rs
dropped rs zero d h = take-append-drop d rs
dropped rs (suc k) zero h = absurd (omega (arith, h))
dropped [] (suc k) (suc d) h = refl
dropped (r ∷ rs) (suc k) (suc d) h = dropped rs k d (omega (arith, h))

pub filled-part : (rs : List (List ℕ)) (d : ℕ) (r : Answer FullHeader) → ((w : FullHeader) (q : ℕ) → accepted w q ≡ r → length w.tensors ≤ d)
    → filled tensor_row (take d rs) (seen (λ w. w.tensors) r) ++ drop d rs ≡ filled tensor_row rs (seen (λ w. w.tensors) r)
unfolding seen
filled-part rs d (accepted w q) h = append_assoc (map tensor_row w.tensors) _ _ ∙ ap (λ l. map tensor_row w.tensors ++ l) (dropped rs (length w.tensors) d (h w q refl))
filled-part rs d (refused n p) h = take-append-drop d rs

module _ (limits : Limits) (cap : ℕ) (es rs : List (List ℕ)) (s : List ℕ) (room d : ℕ) (e : d ≡ min room (length rs)) where
  same-room : length (take d rs) ≡ length (take room rs)
  same-room = length-take d rs ∙ (let f : min d (length rs) ≡ min room (length rs) = omega (arith, e) in f) ∙ sym (length-take room rs)

  same-run : reader_run limits cap es (take d rs) s ≡ reader_run limits cap es (take room rs) s
  same-run = ap (λ n. run (under limits (header (record { entries = length es; tensors = n }) cap)) s 0) same-room

  no_more : (w : FullHeader) (q : ℕ) → accepted w q ≡ reader_run limits cap es (take room rs) s → length w.tensors ≤ d
  no_more w q f =
      let c = counted limits cap es (take room rs) s f in
      let g = length-take room rs in
      omega (arith, c.tensors, c.tensor_room, g, e)

  pub part-read : (r : Result Header Refusal) {E R : List (List ℕ)} → as_header r ≡ seen (λ w. w.head) (reader_run limits cap es (take d rs) s) → E ≡ filled entry_row es (seen (λ w. w.entries) (reader_run limits cap es (take d rs) s))
      → R ≡ filled tensor_row (take d rs) (seen (λ w. w.tensors) (reader_run limits cap es (take d rs) s))
      → (as_header r ≡ seen (λ w. w.head) (reader_run limits cap es (take room rs) s)) × ((E ≡ filled entry_row es (seen (λ w. w.entries) (reader_run limits cap es (take room rs) s)))
      × (R ++ drop d rs ≡ filled tensor_row rs (seen (λ w. w.tensors) (reader_run limits cap es (take room rs) s))))
  part-read r f g h = (
    f ∙ ap (seen (λ w. w.head)) same-run,
    (
      g ∙ ap (λ z. filled entry_row es (seen (λ w. w.entries) z)) same-run,
      ap (λ l. l ++ drop d rs) (h ∙ ap (λ z. filled tensor_row (take d rs) (seen (λ w. w.tensors) z)) same-run) ∙ filled-part rs d (reader_run limits cap es (take room rs) s) no_more,
    ),
  )
