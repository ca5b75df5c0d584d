-- An item or a value of a type is what its form reads: a scalar, a text, an array, or nothing.
-- Assumes nothing.
use Prim.Native.Nat.{ℕ, suc, ◌-◌, ◌<◌}
use mathlib.Core.Path.{◌≡◌, refl}
use mathlib.Core.List.{List}
use mathlib.Core.Bool.{true, false}
use native.Mathlib.Omega.{arith}
use lib.Dec.{ltb}
use borrow.Author.Tests.{lt-ltb, le-ltb, ne_eqb}
use Rattle.reading.specs.Reading.{done, accepted, refused, run, ◌>>=◌, here, and_then}
use Rattle.fields.specs.Value.{width_of}
use Rattle.fields.specs.declared.Width.{Width}
use Rattle.fields.specs.declared.Width.TheVariants.{One, Two, Four, Eight}
use Rattle.reading.proofs.RunLaws.{run_bind}
use Rattle.scalars.specs.Scalars.{scalar_width}
use Rattle.values.specs.Format.{depth}
use Rattle.values.specs.Contents.{a_scalar, a_text}
use Rattle.sheet.specs.Format.{text_of, text, scalar, array, item, value}

some : (w : Width) → 0 < width_of w
some One = omega arith
some Two = omega arith
some Four = omega arith
some Eight = omega arith

-- a type that has a width is a scalar's
pub has_width : (w : Width) (t : ℕ) → width_of w ≡ scalar_width t → ltb 0 (scalar_width t) ≡ true
has_width w t e = lt-ltb 0 (scalar_width t) (omega (arith, some w))

pub has-none : (t : ℕ) → 0 ≡ scalar_width t → ltb 0 (scalar_width t) ≡ false
has-none t e = le-ltb 0 (scalar_width t) (omega arith)

module _ (s : List ℕ) (at : ℕ) where
  -- a scalar or a text, as an item at any depth
  pub item-scalar : (d t : ℕ) → ltb 0 (scalar_width t) ≡ true → run (item (suc d) t) s at ≡ and_then (run (scalar t) s at) (λ v q. accepted (a_scalar t v) q)
  unfolding item run
  item-scalar d t wide = rw wide (run_bind (scalar t) (λ v. done (a_scalar t v)) s at)

  pub item-text : (d : ℕ) → run (item (suc d) 8) s at ≡ and_then (run text s at) (λ a q. accepted (a_text a.bytes) q)
  unfolding item scalar_width run
  item-text d = run_bind text (λ a. done (a_text a.bytes)) s at

  -- no other is one where no array may stand
  pub item-none : (t : ℕ) → ltb 0 (scalar_width t) ≡ false → (t ≡ 8 → ⊥) → run (item 1 t) s at ≡ refused 31 0
  unfolding item array run
  item-none t none other = rw (none, ne_eqb t 8 other)

  -- a scalar, a text or an array, as a value
  pub value-scalar : (e t : ℕ) → ltb 0 (scalar_width t) ≡ true → run (value e t) s at ≡ and_then (run (scalar t) s at) (λ v q. accepted (a_scalar t v) q)
  unfolding value run
  value-scalar e t wide = rw wide (run_bind (scalar t) (λ v. done (a_scalar t v)) s at)

  pub value-text : (e : ℕ) → run (value e 8) s at ≡ and_then (run (text_of (e - at)) s at) (λ a q. accepted (a_text a.bytes) q)
  unfolding value scalar_width here run ◌>>=◌
  value-text e = run_bind (text_of (e - at)) (λ a. done (a_text a.bytes)) s at

  pub value-array : (e : ℕ) → run (value e 9) s at ≡ run (array depth (item depth)) s at
  unfolding value scalar_width
  value-array e = refl

  pub value_none : (e t : ℕ) → ltb 0 (scalar_width t) ≡ false → (t ≡ 8 → ⊥) → (t ≡ 9 → ⊥) → run (value e t) s at ≡ refused 31 0
  unfolding value run
  value_none e t none other another = rw (none, ne_eqb t 8 other, ne_eqb t 9 another)

-- an item that is no array, and a value, by their type
pub ruleset item_steps = (has_width, has-none, item-scalar, item-text, item-none)

pub ruleset value_steps = (has_width, has-none, value-scalar, value-text, value-array, value_none)
