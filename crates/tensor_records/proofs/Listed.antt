-- The records that are filled from the rows of a header are those of its tensors. Assumes nothing.
use Rattle.std.specs.Prelude.{Result, Ok, Err}
use Prim.Native.Nat.{ℕ, ◌≤◌}
use mathlib.Core.Path.{◌≡◌, refl, sym, ap, ◌∙◌}
use mathlib.Core.List.{List, [], ◌∷◌, ◌++◌, map}
use native.Mathlib.Omega.{arith}
use lib.ListN.{length, take, drop, length-take, length-map}
use lib.Seq.{take_at}
use Rattle.reading.specs.Each.{filled}
use Rattle.reading.specs.Reading.{Answer, accepted, refused, seen}
use Rattle.reading.specs.declared.Limits.{Limits}
use Rattle.tensors.specs.Rows.{tensor_row}
use Rattle.tensors.specs.declared.Tensor.{Tensor}
use Rattle.header.specs.Format.{FullHeader}
use Rattle.reading.specs.declared.Refusal.{Refusal}
use Rattle.header.specs.Answers.{as_header}
use Rattle.header.specs.declared.Header.{Header}
use Rattle.header.proofs.Counted.{counted}
use Rattle.tensor_records.specs.declared.TensorRecord.{TensorRecord}
use Rattle.tensor_records.specs.Records.{filled_from, tensors_in, tensor_record, listing_of}
use Rattle.tensor_records.proofs.Filled.{none_filled}

-- as many records as there are tensors
from_rows : (ys : List TensorRecord) (l : List Tensor) → length l ≤ length ys → filled_from ys (map tensor_row l) ≡ map tensor_record l ++ drop (length l) ys
from_rows ys [] h = none_filled ys
from_rows [] (t ∷ l) h = absurd (omega (arith, h))
from_rows (y ∷ ys) (t ∷ l) h = ap (λ (k : List TensorRecord). tensor_record t ∷ k) (from_rows ys l (omega (arith, h)))

by_answer : (ys : List TensorRecord) (rs : List (List ℕ)) (r : Result Header Refusal) (whole : Answer FullHeader) → ((w : FullHeader) (q : ℕ) → accepted w q ≡ whole → (length w.tensors ≡ w.head.tensors) × (w.head.tensors ≤ length ys))
    → as_header r ≡ seen (λ w. w.head) whole → filled_from ys (take (tensors_in r) (filled tensor_row rs (seen (λ w. w.tensors) whole))) ≡ filled tensor_record ys (seen (λ w. w.tensors) whole)
unfolding seen
by_answer ys rs (Ok h) (accepted w q) many e =
    let c = many w q refl in
    let same : h ≡ w.head = cc in
    let n : h.tensors ≡ length w.tensors = ap (λ (k : Header). k.tensors) same ∙ sym c.0 in
    let fits : length w.tensors ≤ length ys = omega (arith, c.0, c.1) in
    ap (λ (m : ℕ). filled_from ys (take m (map tensor_row w.tensors ++ drop (length w.tensors) rs))) n
    ∙ ap (filled_from ys) (take_at (map tensor_row w.tensors) (drop (length w.tensors) rs) (length w.tensors) (length-map w.tensors tensor_row)) ∙ from_rows ys w.tensors fits
by_answer ys rs (Ok h) (refused n p) many e = let z : ◌≡◌ {A = ℕ} 0 1 = cc in absurd (omega arith)
by_answer ys rs (Err x) (accepted w q) many e = let z : ◌≡◌ {A = ℕ} 0 1 = cc in absurd (omega arith)
by_answer ys rs (Err x) (refused m q) many e = none_filled ys

pub listed : (limits : Limits) (cap : ℕ) (es rs : List (List ℕ)) (ys : List TensorRecord) (s : List ℕ) (r : Result Header Refusal) → as_header r ≡ seen (λ w. w.head) (listing_of limits cap es rs ys s)
    → filled_from ys (take (tensors_in r) (filled tensor_row rs (seen (λ w. w.tensors) (listing_of limits cap es rs ys s)))) ≡ filled tensor_record ys (seen (λ w. w.tensors) (listing_of limits cap es rs ys s))
listed limits cap es rs ys s r =
    by_answer ys rs r (listing_of limits cap es rs ys s) (λ w q e.
    let c = counted limits cap es (take (length ys) rs) s e in
    let short = length-take (length ys) rs in
    (c.tensors, omega (arith, c.tensor_room, short)))
