-- The library's comparisons of bytes say what `begins` and `is_word` say. Assumes nothing.
use Rattle.std.specs.Prelude.{if◌then◌else◌}
use mathlib.Core.Path.{◌≡◌, refl, ap, ◌∙◌}
use mathlib.Core.List.{List, [], ◌∷◌}
use mathlib.Core.Bool.{Bool, true, false, ◌&&◌}
use Prim.Native.Nat.{ℕ}
use lib.ListN.{length, take}
use lib.Dec.{eqb, eqb-suc-zero, eqb-zero-suc, eqb-suc-suc}
use Rattle.std.specs.Cmp.Lexicographic.{pointwise}
use Rattle.std.proofs.Common.{rules}
use Rattle.std.proofs.lemmas.Bool.Decides.{nat_tests}
use Rattle.std.proofs.lemmas.Grind.{common_steps}
use Rattle.values.specs.Format.{begins, is_word}
use Rattle.values.proofs.Texts.{tokenizer-looked}

and_if : (a b : Bool) → (a && b) ≡ (if a then b else false)
and_if true b = refl
and_if false b = refl

and_ifs : (a b c : Bool) → (a && (if b then c else false)) ≡ (if b then (if a then c else false) else false)
and_ifs true b c = refl
and_ifs false true c = refl
and_ifs false false c = refl

eqb_turned : (x y : ℕ) → eqb x y ≡ eqb y x
eqb_turned x y = search (rules, nat_tests)

-- a front
pub same_begins : (w text : List ℕ) → pointwise eqb w (take (length w) text) ≡ begins w text
same_begins [] text = refl
same_begins (x ∷ w) [] = refl
same_begins (x ∷ w) (y ∷ text) = ap (λ b. eqb x y && b) (same_begins w text) ∙ and_if (eqb x y) (begins w text)

-- the whole
pub same_word : (w text : List ℕ) → pointwise eqb text w ≡ is_word w text
same_word [] [] = refl
same_word [] (y ∷ text) = rw (eqb-suc-zero (length text))
same_word (x ∷ w) [] = rw (eqb-zero-suc (length w))
same_word (x ∷ w) (y ∷ text) =
    rw (eqb-suc-suc (length text) (length w))
    (ap (λ b. eqb y x && b) (same_word w text) ∙ ap (λ b. b && is_word w text) (eqb_turned y x) ∙ and_ifs (eqb x y) (eqb (length text) (length w)) (begins w text))

-- a front from a place on, and that of a text which is inside
pub ruleset front_steps = (same_begins, common_steps)

pub ruleset tokenizer_steps = (same_begins, tokenizer-looked)
