-- The refusals of tensors, and that each names a place within the bytes. Assumes nothing.
use Prim.Native.Nat.{ℕ, ◌≤◌}
use mathlib.Core.Path.{refl}
use mathlib.Core.List.{List, [], ◌∷◌}
use lib.Dec.{leb, ltb}
use lib.ListN.{length}
use Rattle.reading.specs.Each.{each}
use Rattle.reading.specs.Refusals.{OneOf, Refuses}
use Rattle.reading.specs.declared.Limits.{Limits}
use Rattle.reading.proofs.RefusalLaws.{listed_too, refuses_then, refuses_done, refuses_here, refuses_if, refuses_check, refuses_mark, refuses_each, refuses_too}
use Rattle.fields.proofs.NumberFields.{refuses_number}
use Rattle.kinds.specs.Table.{known_kind}
use Rattle.values.specs.declared.Dialect.{Dialect}
use Rattle.values.proofs.ValueRefusals.{text_refusals, refuses_text}
use Rattle.tensors.proofs.Fitting.{fitting_refusals, refuses_fitting}
use Rattle.tensors.specs.Format.{length_at, lengths_of, shape, kind_and_offset, tensor, total_of}

-- those of a tensor: its name's, too many dimensions, a kind that is none or too new, a part of a
-- block, and what does not fit
abbrev pub tensor_refusals : List ℕ
tensor_refusals = 1 ∷ 7 ∷ 10 ∷ 11 ∷ 12 ∷ 17 ∷ 13 ∷ 14 ∷ 15 ∷ []

missing : {s : List ℕ} (q : ℕ) → q ≤ length s → OneOf tensor_refusals s 1 q
missing q h = record { listed = refl; inside = h }

module _ {l : Limits} {s : List ℕ} (k : Dialect) where
  refuses_length : (n i : ℕ) → Refuses l s (OneOf tensor_refusals s) (length_at k n i)
  unfolding length_at
  refuses_length n i = refuses_if (ltb i n) (refuses_number _ _ missing) refuses_done

  refuses_shape : Refuses l s (OneOf tensor_refusals s) (shape k)
  unfolding shape lengths_of
  refuses_shape =
      refuses_here _ (λ p low. refuses_then (refuses_number _ _ missing) (λ n. refuses_then (refuses_check (leb n 4) 10 p (λ e. record { listed = refl; inside = low })) (λ u.
      refuses_then (refuses_length n 0) (λ a. refuses_then (refuses_length n 1) (λ b. refuses_then (refuses_length n 2) (λ c. refuses_then (refuses_length n 3) (λ d. refuses_done)))))))

  refuses_stored : Refuses l s (OneOf tensor_refusals s) (kind_and_offset k)
  unfolding kind_and_offset
  refuses_stored =
      refuses_here _ (λ p low. refuses_then (refuses_number _ _ missing) (λ t. refuses_then (refuses_number _ _ missing) (λ o.
      refuses_then (refuses_check (known_kind t) 11 p (λ e. record { listed = refl; inside = low })) (λ u. refuses_then (refuses_mark (record { listed = refl; inside = low })) (λ v. refuses_done)))))

  pub refuses_tensor : (total : ℕ) → Refuses l s (OneOf tensor_refusals s) (tensor k total)
  unfolding tensor
  refuses_tensor total =
      refuses_here _ (λ p low. refuses_then (refuses_too text_refusals tensor_refusals refl (refuses_text k)) (λ name. refuses_then refuses_shape (λ x. refuses_then refuses_stored (λ y.
      refuses_fitting p total name x y (λ n h. record { listed = listed_too n fitting_refusals tensor_refusals refl h; inside = low })))))

  -- and those of all tensors
  pub refuses_tensors : (n : ℕ) → Refuses l s (OneOf tensor_refusals s) (each (tensor k) total_of n 0)
  refuses_tensors n = refuses_each _ refuses_tensor n 0
