-- No entry has a mark, so ceilings change nothing of it. Assumes nothing.
use Prim.Native.Nat.{ℕ, zero, suc, ◌^◌}
use mathlib.Core.Path.{◌≡◌}
use mathlib.Core.List.{List}
use lib.Dec.{leb, eqb, ltb}
use Rattle.reading.specs.Ceilings.{under, Low}
use Rattle.reading.specs.Reading.{Reading, run}
use Rattle.values.specs.Format.{value, size, text_looking, text, key, type, value_of, array, depth, entry}
use Rattle.scalars.specs.Scalars.{scalar_width}
use Rattle.reading.proofs.CeilingLaws.{low_run, low_bind, low-done, low-refuse, low-here, low_field, low_if, low-checked, low-each}
use Rattle.fields.proofs.NumberFields.{low-number}
use Rattle.values.specs.declared.Dialect.{Dialect}
use Rattle.values.specs.declared.Span.{Span}
use Rattle.values.specs.declared.ArraySpan.{ArraySpan}
use Rattle.reading.specs.declared.Limits.{Limits}

module _ (l : Limits) (k : Dialect) where
  low-size : Low l (size k)
  unfolding size
  low-size = low-number l _ _

  low-looking : {A : Type 0} (n : ℕ) (f : Span → List ℕ → A) → Low l (text_looking n f k)
  unfolding text_looking
  low-looking n f =
      low_bind l _ _ (low-here l) (λ p. low_bind l _ _ low-size (λ n. low-checked l (leb n (2 ^ 30)) 7 p _ (λ e. low_bind l _ _ (low-here l) (λ q. low_field l _ _ _))))

  pub low-text : Low l (text k)
  unfolding text
  low-text = low-looking 0 _

  low-type : Low l (type k)
  unfolding type
  low-type = low_bind l _ _ (low-here l) (λ p. low_bind l _ _ (low-number l 4 k.big) (λ t. low-checked l (leb t 12) 8 p _ (λ e. low-done l t)))

  low-value_of : (arrays : ℕ → Reading ArraySpan) → ((o : ℕ) → Low l (arrays o)) → (o t : ℕ) → Low l (value_of arrays k o t)
  unfolding value_of
  low-value_of arrays h o t =
      low_if l (ltb 0 (scalar_width t)) _ _ (low_bind l _ _ (low-number l _ _) (λ n. low-done l _))
      (low_if l (eqb t 8) _ _ (low_bind l _ _ low-text (λ a. low-done l _)) (low_bind l _ _ (h o) (λ a. low-done l _)))

  low-array : (d o : ℕ) → Low l (array d k o)
  unfolding array
  low-array zero o = low-refuse l _ 9 o
  low-array (suc d) o =
      low_bind l _ _ (low-here l) (λ p. low_bind l _ _ low-type (λ t. low_bind l _ _ low-size (λ n. low_bind l _ _ (low-here l) (λ q.
      low_bind l _ _ (low-each l _ _ (λ z. low-value_of (array d k) (low-array d) p t) n tt) (λ items. low-done l _)))))

  pub low-entry : (cap : ℕ) → Low l (entry k cap)
  unfolding entry key value
  low-entry cap =
      low_bind l _ _ (low-looking 18 _) (λ name. low_bind l _ _ (low_bind l _ _ (low-here l) (λ p. low_bind l _ _ low-type (λ t. low-value_of (array depth k) (low-array depth) p t)))
      (λ v. low-done l _))

  -- so no ceiling changes what an entry is
  pub under-entry : (cap : ℕ) (s : List ℕ) (p : ℕ) → run (under l (entry k cap)) s p ≡ run (entry k cap) s p
  under-entry cap s p = low_run l (entry k cap) (low-entry cap) s p

  -- nor what a name or a shape is
  pub under-text : (s : List ℕ) (p : ℕ) → run (under l (text k)) s p ≡ run (text k) s p
  under-text s p = low_run l (text k) low-text s p
