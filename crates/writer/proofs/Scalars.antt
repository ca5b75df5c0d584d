-- A scalar that is there, from the number that is read at its place. Assumes nothing.
use Rattle.std.specs.Prelude.{if◌then◌else◌}
use Prim.Native.Nat.{ℕ}
use mathlib.Core.Path.{◌≡◌, refl, sym, ap, ◌∙◌}
use mathlib.Core.Bool.{Bool, true, false}
use mathlib.Core.List.{List}
use native.Mathlib.Omega.{arith}
use lib.Dec.{leb, eqb}
use Rattle.reading.specs.Reading.{accepted, refused, run, is_accepted, check, done, ◌>>◌, ◌>>=◌}
use Rattle.fields.specs.Value.{number}
use Rattle.reading.proofs.RunLaws.{goes_on, stops}
use Rattle.scalars.specs.Scalars.{scalar_width}
use Rattle.sheet.specs.Format.{scalar}

module _ (t : ℕ) (s : List ℕ) (p : ℕ) (there : is_accepted (run (scalar t) s p) ≡ true) where
  -- a number that is not there is no scalar
  pub scalar-none : {n o : ℕ} → refused n o ≡ run (number (scalar_width t) true) s p → ⊥
  unfolding scalar
  scalar-none e =
      let f : false ≡ true = ap is_accepted (sym (stops _ _ s p e)) ∙ there in
      let z : ◌≡◌ {A = ℕ} 0 1 = cc in
      omega arith

  passed : (b : Bool) (v q : ℕ) → is_accepted (run (check b 31 0 >> done v) s q) ≡ true → run (check b 31 0 >> done v) s q ≡ accepted v q
  unfolding run ◌>>=◌
  passed true v q h = refl
  passed false v q h = let z : ◌≡◌ {A = ℕ} 0 1 = cc in absurd (omega arith)

  -- one that is there is the scalar
  pub scalar-some : {v q : ℕ} → accepted v q ≡ run (number (scalar_width t) true) s p → run (scalar t) s p ≡ accepted v q
  unfolding scalar
  scalar-some {v} {q} e = goes_on _ _ s p e ∙ passed (if eqb t 7 then leb v 1 else true) v q (rw (goes_on _ _ s p e) at there)
