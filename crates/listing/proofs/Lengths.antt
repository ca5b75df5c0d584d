-- The lengths of a shape are the first, and each further one that is stated. Assumes nothing.
use Prim.Native.Nat.{ℕ, zero, suc}
use mathlib.Core.Path.{◌≡◌, refl, sym, ap, ◌∙◌}
use mathlib.Core.List.{List, [], ◌∷◌, ◌++◌, append_assoc, append-nil}
use native.Mathlib.Omega.{arith}
use lib.ListN.{take}
use lib.Seq.{take_all}
use borrow.Author.Tests.{lt-ltb}
use Rattle.reading.specs.Back.{bytes_of_all}
use Rattle.listing.specs.Text.{further_text, lengths_text}
use Rattle.listing.specs.Steps.{first_text, further_of, plane_text}
use Rattle.rows.specs.Columns.{dimensions_in, first_length_in, second_length_in, third_length_in, fourth_length_in, lengths_in}

module _ (p q r t : ℕ) where
  abbrev stated : ℕ → List ℕ
  stated d = first_text d p ++ further_of 1 d q ++ further_of 2 d r ++ further_of 3 d t

  split : (d : ℕ) → stated d ≡ lengths_text (take d (p ∷ q ∷ r ∷ t ∷ []))
  unfolding lengths_text further_text bytes_of_all
  split zero = refl
  split (suc zero) = simp append-nil refl
  split (suc (suc zero)) = simp (append_assoc, append-nil) refl
  split (suc (suc (suc zero))) = simp (append_assoc, append-nil) refl
  split (suc (suc (suc (suc d)))) =
      let n = suc (suc (suc (suc d))) in
      let four : stated n ≡ lengths_text (p ∷ q ∷ r ∷ t ∷ []) =
      rw (lt-ltb 0 n (omega arith), lt-ltb 1 n (omega arith), lt-ltb 2 n (omega arith), lt-ltb 3 n (omega arith)) (simp (append_assoc, append-nil) refl) in
      four ∙ ap lengths_text (sym (take_all n (p ∷ q ∷ r ∷ t ∷ []) (omega arith)))

-- the lengths of a row are the first two, and the other two where they are stated
pub lengths-split : (row : List ℕ) → plane_text row ++ further_of 2 (dimensions_in row) (third_length_in row) ++ further_of 3 (dimensions_in row) (fourth_length_in row) ≡ lengths_text (lengths_in row)
unfolding plane_text
lengths-split row = split (first_length_in row) (second_length_in row) (third_length_in row) (fourth_length_in row) (dimensions_in row)
