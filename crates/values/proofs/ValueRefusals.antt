-- The refusals of texts, values and entries, and that each names a place within the bytes. Assumes
-- nothing.
use Prim.Native.Nat.{ℕ, zero, suc, ◌^◌, ◌≤◌}
use mathlib.Core.Path.{refl}
use mathlib.Core.List.{List, [], ◌∷◌}
use lib.Dec.{leb, eqb, ltb}
use lib.ListN.{length}
use Rattle.reading.specs.Each.{times}
use Rattle.reading.specs.Reading.{Reading}
use Rattle.reading.specs.Refusals.{OneOf, Refuses}
use Rattle.reading.specs.declared.Limits.{Limits}
use Rattle.reading.proofs.RefusalLaws.{refuses_then, refuses_done, refuses_refuse, refuses_here, refuses_field, refuses_if, refuses_check, refuses_each, refuses_too}
use Rattle.fields.proofs.NumberFields.{refuses_number}
use Rattle.scalars.specs.Scalars.{scalar_width}
use Rattle.values.specs.Format.{value, size, text_looking, text, key, type, value_of, array, depth, entry}
use Rattle.values.specs.declared.Dialect.{Dialect}
use Rattle.values.specs.declared.Span.{Span}
use Rattle.values.specs.declared.ArraySpan.{ArraySpan}

-- a field that is not wholly there, and a text that is too long
abbrev pub text_refusals : List ℕ
text_refusals = 1 ∷ 7 ∷ []

-- those of an entry: its texts', a type that is none, and an array too deep
abbrev pub entry_refusals : List ℕ
entry_refusals = 1 ∷ 7 ∷ 8 ∷ 9 ∷ []

module _ {l : Limits} {s : List ℕ} (k : Dialect) where
  pub refuses_size : {P : ℕ → ℕ → Type 0} → ((q : ℕ) → q ≤ length s → P 1 q) → Refuses l s P (size k)
  unfolding size
  refuses_size h = refuses_number _ _ h

  refuses_looking : {A : Type 0} (n : ℕ) (f : Span → List ℕ → A) → Refuses l s (OneOf text_refusals s) (text_looking n f k)
  unfolding text_looking
  refuses_looking n f =
      refuses_here _ (λ p low. refuses_then (refuses_size (λ q h. record { listed = refl; inside = h })) (λ m.
      refuses_then (refuses_check (leb m (2 ^ 30)) 7 p (λ e. record { listed = refl; inside = low })) (λ u.
      refuses_here _ (λ q h. refuses_field (λ o g. record { listed = refl; inside = g })))))

  pub refuses_text : Refuses l s (OneOf text_refusals s) (text k)
  unfolding text
  refuses_text = refuses_looking 0 _

  refuses_type : Refuses l s (OneOf entry_refusals s) (type k)
  unfolding type
  refuses_type =
      refuses_here _ (λ p low. refuses_then (refuses_number _ _ (λ q h. record { listed = refl; inside = h })) (λ t.
      refuses_then (refuses_check (leb t 12) 8 p (λ e. record { listed = refl; inside = low })) (λ u. refuses_done)))

  refuses_value_of : (arrays : ℕ → Reading ArraySpan) (o t : ℕ) → Refuses l s (OneOf entry_refusals s) (arrays o) → Refuses l s (OneOf entry_refusals s) (value_of arrays k o t)
  unfolding value_of
  refuses_value_of arrays o t h =
      refuses_if (ltb 0 (scalar_width t)) (refuses_then (refuses_number _ _ (λ q g. record { listed = refl; inside = g })) (λ n. refuses_done))
      (refuses_if (eqb t 8) (refuses_then (refuses_too text_refusals entry_refusals refl refuses_text) (λ a. refuses_done)) (refuses_then h (λ a. refuses_done)))

  refuses_array : (d o : ℕ) → o ≤ length s → Refuses l s (OneOf entry_refusals s) (array d k o)
  unfolding array
  refuses_array zero o low = refuses_refuse (record { listed = refl; inside = low })
  refuses_array (suc d) o low =
      refuses_here _ (λ p there. refuses_then refuses_type (λ t. refuses_then (refuses_size (λ q h. record { listed = refl; inside = h })) (λ n. refuses_here _ (λ q h.
      refuses_then (refuses_each _ (λ z. refuses_value_of (array d k) p t (refuses_array d p there)) n tt) (λ items. refuses_done)))))

  refuses_value : Refuses l s (OneOf entry_refusals s) (value k)
  unfolding value
  refuses_value = refuses_here _ (λ p low. refuses_then refuses_type (λ t. refuses_value_of (array depth k) p t (refuses_array depth p low)))

  pub refuses_entry : (cap : ℕ) → Refuses l s (OneOf entry_refusals s) (entry k cap)
  unfolding entry key
  refuses_entry cap = refuses_then (refuses_too text_refusals entry_refusals refl (refuses_looking 18 _)) (λ name. refuses_then refuses_value (λ v. refuses_done))

  -- and those of all entries
  pub refuses_entries : (cap n : ℕ) → Refuses l s (OneOf entry_refusals s) (times n (entry k cap))
  refuses_entries cap n = refuses_each _ (λ z. refuses_entry cap) n tt
