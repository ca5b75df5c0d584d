-- A value of a type is what its form reads: a scalar, a text or an array. Assumes nothing.
use Prim.Native.Nat.{ℕ, ◌≤◌, ◌<◌}
use mathlib.Core.Path.{◌≡◌, refl, ap, ◌∙◌}
use mathlib.Core.List.{List}
use lib.Dec.{leb}
use borrow.Author.Tests.{leb-true, lt-ltb, tests}
use Rattle.reading.specs.Back.{Sure}
use Rattle.reading.specs.Reading.{Reading, done, accepted, run, ◌>>=◌, ◌>>◌, here, check, and_then, passed}
use Rattle.fields.specs.Value.{number}
use Rattle.reading.specs.Each.{times}
use Rattle.reading.proofs.RunLaws.{run_bind}
use Rattle.reading.proofs.Repetition.{times-alike}
use Rattle.reading.proofs.Views.{shown-made}
use Rattle.reading.proofs.SureLaws.{sure_then, sure_done, sure_here, sure_check, whatever}
use Rattle.values.specs.Format.{text, type, value_of}
use Rattle.scalars.specs.Scalars.{scalar_width, scalar_of}
use Rattle.scalars.proofs.Types.{scalar_else}
use Rattle.values.specs.declared.Dialect.{Dialect}
use Rattle.values.specs.declared.ArraySpan.{ArraySpan}
use Rattle.values.specs.declared.Value.TheVariants.{Single, Text, Array}

module _ (arrays : ℕ → Reading ArraySpan) (k : Dialect) (o : ℕ) (s : List ℕ) (at : ℕ) where
  -- a scalar, a text and an array
  pub value-scalar : (t : ℕ) → 0 < scalar_width t → run (value_of arrays k o t) s at ≡ and_then (run (number (scalar_width t) k.big) s at) (λ n q. accepted (Single (scalar_of t n)) q)
  unfolding value_of run
  value-scalar t wide = rw (lt-ltb 0 (scalar_width t) wide) (run_bind (number (scalar_width t) k.big) (λ n. done (Single (scalar_of t n))) s at)

  pub value-text : run (value_of arrays k o 8) s at ≡ and_then (run (text k) s at) (λ a q. accepted (Text a) q)
  unfolding value_of scalar_width run
  value-text = run_bind (text k) (λ a. done (Text a)) s at

  pub value-array : run (value_of arrays k o 9) s at ≡ and_then (run (arrays o) s at) (λ a q. accepted (Array a) q)
  unfolding value_of scalar_width run
  value-array = run_bind (arrays o) (λ a. done (Array a)) s at

-- of a value only the place is kept: that after its scalar, or its text
module _ (arrays : ℕ → Reading ArraySpan) (k : Dialect) (o : ℕ) (s : List ℕ) where
  pub passed-scalar : (t : ℕ) → 0 < scalar_width t → (at : ℕ) → passed (run (value_of arrays k o t) s at) ≡ passed (run (number (scalar_width t) k.big) s at)
  passed-scalar t wide at = ap passed (value-scalar arrays k o s at t wide) ∙ shown-made (λ v. tt {0}) (λ n. Single (scalar_of t n)) (run (number (scalar_width t) k.big) s at)

  pub passed-text : (at : ℕ) → passed (run (value_of arrays k o 8) s at) ≡ passed (run (text k) s at)
  passed-text at = ap passed (value-text arrays k o s at) ∙ shown-made (λ v. tt {0}) Text (run (text k) s at)

  -- and so many times
  pub scalars_passed : (t : ℕ) → 0 < scalar_width t → (n at : ℕ) → passed (run (times n (value_of arrays k o t)) s at) ≡ passed (run (times n (number (scalar_width t) k.big)) s at)
  scalars_passed t wide = times-alike (value_of arrays k o t) (number (scalar_width t) k.big) s (passed-scalar t wide)

  pub texts_passed : (n at : ℕ) → passed (run (times n (value_of arrays k o 8)) s at) ≡ passed (run (times n (text k)) s at)
  texts_passed = times-alike (value_of arrays k o 8) (text k) s passed-text

-- a type is a number of four bytes, and the test of refusal 8
pub type_read : (k : Dialect) (s : List ℕ) (at : ℕ) → run (type k) s at ≡ run (number 4 k.big >>= (λ t. check (leb t 12) 8 at >> done t)) s at
unfolding type here run ◌>>=◌
type_read k s at = refl

-- a type that was accepted is one of the thirteen
pub sure_type : (k : Dialect) (s : List ℕ) (p : ℕ) → Sure s (type k) p (λ t q. t ≤ 12)
unfolding type
sure_type k s p =
    sure_here _ (sure_then whatever (λ t q u. sure_check (leb t 12) 8 p _ (λ few. sure_done (leb-true _ _ few))))

pub type-known : (k : Dialect) (s : List ℕ) (at : ℕ) {t q : ℕ} → accepted t q ≡ run (type k) s at → t ≤ 12
type-known k s at {t} {q} e = (sure_type k s at).holds t q e

-- the steps of a type, of a type and its value, of a value, and of so many that are no arrays
pub ruleset number_steps = (type_read, run_bind, tests)

pub ruleset type_steps = (run_bind, type-known)

pub ruleset value_steps = (value-scalar, value-text, value-array, scalar_else)

pub ruleset plain_steps = (texts_passed, scalars_passed, scalar_else)
