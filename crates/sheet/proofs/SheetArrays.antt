-- An array of a sheet by its depth and its parts, and its items by their type: what is no array is
-- the same at every depth, and an array is one at one depth less. Assumes nothing.
use Prim.Native.Nat.{ℕ, zero, suc, ◌-◌, ◌≤◌, ◌<◌}
use mathlib.Core.Path.{◌≡◌, refl, sym, ap, ◌∙◌}
use mathlib.Core.Bool.{Bool, true, false}
use mathlib.Core.List.{List}
use native.Mathlib.Omega.{arith}
use lib.Dec.{eqb}
use borrow.Author.Tests.{leb-true, lt-ltb, ne_eqb, eqb-true, eqb-false}
use Rattle.reading.specs.Back.{bytes_of_all}
use Rattle.reading.specs.Each.{times}
use Rattle.reading.specs.Reading.{done, Answer, accepted, refused, run, and_then, seen, is_accepted}
use Rattle.fields.specs.Value.{number}
use Rattle.reading.proofs.Repetition.{times-bytes}
use Rattle.reading.proofs.RunLaws.{not_there, run_bind, goes_on, stops, test-holds, test_fails}
use Rattle.reading.proofs.Views.{shown-made}
use Rattle.scalars.specs.Scalars.{scalar_width}
use Rattle.scalars.proofs.Types.{scalar_else}
use Rattle.values.specs.declared.Dialect.{Dialect}
use Rattle.values.specs.Contents.{a_scalar, a_text, an_array, value_bytes}
use Rattle.sheet.specs.Format.{text, scalar, item_type, array, item, big_end}
use Rattle.sheet.specs.Steps.{step_of}
use Rattle.sheet.proofs.BackFromAnswers.{step_then, step_seen}
use Rattle.sheet.proofs.SheetItems.{item-scalar, item-text}

-- an array by its depth: none may stand here, or its item type, the test of that, its count and its
-- items
module _ (s : List ℕ) (at : ℕ) where
  pub array-none : (d : ℕ) → d ≡ 0 → run (array d (item d)) s at ≡ refused 31 0
  unfolding array run
  array-none zero e = refl
  array-none (suc d) e = absurd (omega arith)

  pub array_untyped : (d : ℕ) → 0 < d → {w r : ℕ} → refused w r ≡ run (number 1 true) s at → run (array d (item d)) s at ≡ refused w r
  unfolding array
  array_untyped zero deep e = absurd (omega arith)
  array_untyped (suc d) deep e = stops (number 1 true) _ s at e

  module _ {t p : ℕ} (typed : accepted t p ≡ run (number 1 true) s at) where
    pub array_mistyped : (d : ℕ) → 0 < d → item_type (d - 1) t ≡ false → run (array d (item d)) s at ≡ refused 31 0
    unfolding array
    array_mistyped zero deep fits = absurd (omega arith)
    array_mistyped (suc d) deep fits =
        let less : suc d - 1 ≡ d = omega arith in
        goes_on (number 1 true) _ s at typed ∙ test_fails 31 0 _ s p (rw less at fits)

    pub array_uncounted : (d : ℕ) → 0 < d → item_type (d - 1) t ≡ true → {w r : ℕ} → refused w r ≡ run (number 4 true) s p → run (array d (item d)) s at ≡ refused w r
    unfolding array
    array_uncounted zero deep fits e = absurd (omega arith)
    array_uncounted (suc d) deep fits e =
        let less : suc d - 1 ≡ d = omega arith in
        goes_on (number 1 true) _ s at typed ∙ test-holds 31 0 _ s p (rw less at fits) ∙ stops (number 4 true) _ s p e

    pub array-items : (d : ℕ) → 0 < d → item_type (d - 1) t ≡ true → {n q : ℕ} → accepted n q ≡ run (number 4 true) s p
        → run (array d (item d)) s at ≡ and_then (run (times n (item d t)) s q) (λ l u. accepted (an_array t l) u)
    unfolding array run
    array-items zero deep fits counted = absurd (omega arith)
    array-items (suc d) deep fits {n} {q} counted =
        let less : suc d - 1 ≡ d = omega arith in
        goes_on (number 1 true) _ s at typed ∙ test-holds 31 0 _ s p (rw less at fits) ∙ goes_on (number 4 true) _ s p counted
        ∙ run_bind (times n (item (suc d) t)) (λ l. done (an_array t l)) s q

-- an array that is there
module _ (s : List ℕ) (at : ℕ) where
  -- some may stand there
  pub array_deep : (d : ℕ) → is_accepted (run (array d (item d)) s at) ≡ true → 0 < d
  array_deep zero there = absurd (not_there (array-none s at 0 refl) there)
  array_deep (suc d) there = omega arith

  -- its item type has passed the test
  pub array-fits : (d : ℕ) → is_accepted (run (array d (item d)) s at) ≡ true → {t p : ℕ} → accepted t p ≡ run (number 1 true) s at → item_type (d - 1) t ≡ true
  array-fits d there {t} typed = by (item_type (d - 1) t) refl
    where
      by : (b : Bool) → item_type (d - 1) t ≡ b → item_type (d - 1) t ≡ true
      by true e = e
      by false e = absurd (not_there (array_mistyped s at typed d (array_deep d there) e) there)

-- a type of items that are no arrays
pub plain_type : (d t : ℕ) → item_type d t ≡ true → (t ≡ 9 → ⊥) → t ≤ 12
plain_type d t fits other = leb-true t 12 (rw (ne_eqb t 9 other) at fits)

module _ (k : Dialect) (s : List ℕ) where
  scalar_any : (d t : ℕ) → 0 < scalar_width t → (at : ℕ) → seen (value_bytes (suc d) k) (run (item (suc d) t) s at) ≡ seen (value_bytes 1 k) (run (item 1 t) s at)
  unfolding value_bytes
  scalar_any d t wide at =
      let w = lt-ltb 0 (scalar_width t) wide in
      ap (seen (value_bytes (suc d) k)) (item-scalar s at d t w) ∙ shown-made (value_bytes (suc d) k) (a_scalar t) (run (scalar t) s at)
      ∙ sym (ap (seen (value_bytes 1 k)) (item-scalar s at 0 t w) ∙ shown-made (value_bytes 1 k) (a_scalar t) (run (scalar t) s at))

  text_any : (d at : ℕ) → seen (value_bytes (suc d) k) (run (item (suc d) 8) s at) ≡ seen (value_bytes 1 k) (run (item 1 8) s at)
  unfolding value_bytes
  text_any d at =
      ap (seen (value_bytes (suc d) k)) (item-text s at d) ∙ shown-made (value_bytes (suc d) k) (λ a. a_text a.bytes) (run text s at)
      ∙ sym (ap (seen (value_bytes 1 k)) (item-text s at 0) ∙ shown-made (value_bytes 1 k) (λ a. a_text a.bytes) (run text s at))

  -- an item that is no array is the same at every depth
  plain_any : (d t : ℕ) → t ≤ 12 → (t ≡ 9 → ⊥) → (at : ℕ) → seen (value_bytes (suc d) k) (run (item (suc d) t) s at) ≡ seen (value_bytes 1 k) (run (item 1 t) s at)
  plain_any d t known other at = by (eqb t 8) refl
    where
      by : (b : Bool) → eqb t 8 ≡ b → seen (value_bytes (suc d) k) (run (item (suc d) t) s at) ≡ seen (value_bytes 1 k) (run (item 1 t) s at)
      by true e = let h : t ≡ 8 = eqb-true t 8 e in rw h (text_any d at)
      by false e = scalar_any d t (scalar_else t known (eqb-false t 8 e) other) at

  -- and so are so many of them
  pub items-plain : (d t n at : ℕ) → 0 < d → t ≤ 12 → (t ≡ 9 → ⊥) → seen (bytes_of_all (value_bytes d k)) (run (times n (item d t)) s at) ≡ seen (bytes_of_all (value_bytes 1 k)) (run (times n (item 1 t)) s at)
  items-plain zero t n at deep known other = absurd (omega arith)
  items-plain (suc d) t n at deep known other = times-bytes (value_bytes (suc d) k) (value_bytes 1 k) (item (suc d) t) (item 1 t) s (plain_any d t known other) n at

  -- items that are arrays are arrays at one depth less
  pub items-arrays : (d n at : ℕ) → 0 < d → seen (bytes_of_all (value_bytes d k)) (run (times n (item d 9)) s at) ≡ seen (bytes_of_all (value_bytes (suc (d - 1)) k)) (run (times n (array (d - 1) (item (d - 1)))) s at)
  unfolding item scalar_width
  items-arrays zero n at deep = absurd (omega arith)
  items-arrays (suc d) n at deep =
      let less : suc d - 1 ≡ d = omega arith in
      ap (λ e. seen (bytes_of_all (value_bytes (suc e) k)) (run (times n (array e (item e))) s at)) (sym less)

-- of two answers of which the same is seen, the places after them are the same
alike : {A B C : Type 0} (f : A → C) (g : B → C) (x : Answer A) (y : Answer B) → seen f x ≡ seen g y → step_of x ≡ step_of y
alike f g x y e = sym (step_seen f x) ∙ ap step_of e ∙ step_seen g y

-- the place after an array is that after its items
module _ (s : List ℕ) (at : ℕ) {t p : ℕ} (typed : accepted t p ≡ run (number 1 true) s at) {n q : ℕ} (counted : accepted n q ≡ run (number 4 true) s p) (d : ℕ) (deep : 0 < d) (fits : item_type (d - 1) t ≡ true) where
  steps : step_of (run (array d (item d)) s at) ≡ step_of (run (times n (item d t)) s q)
  steps = ap step_of (array-items s at typed d deep fits counted) ∙ step_then (an_array t) (run (times n (item d t)) s q)

  pub steps-arrays : t ≡ 9 → step_of (run (array d (item d)) s at) ≡ step_of (run (times n (array (d - 1) (item (d - 1)))) s q)
  steps-arrays nine = steps ∙ rw nine (alike _ _ (run (times n (item d 9)) s q) (run (times n (array (d - 1) (item (d - 1)))) s q) (items-arrays big_end s d n q deep))

  pub steps-plain : (t ≡ 9 → ⊥) → step_of (run (array d (item d)) s at) ≡ step_of (run (times n (item 1 t)) s q)
  steps-plain other = steps ∙ alike _ _ (run (times n (item d t)) s q) (run (times n (item 1 t)) s q) (items-plain big_end s d t n q deep (plain_type (d - 1) t fits other) other)

-- the steps of an array
pub ruleset array_steps = (array-none, array_untyped, array_mistyped, array_uncounted, steps-arrays, steps-plain)
