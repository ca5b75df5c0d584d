-- An array by its depth: none may stand here, or it is its item type, its count and its items.
-- Assumes nothing.
use Prim.Native.Nat.{ℕ, suc, ◌-◌}
use mathlib.Core.Path.{◌≡◌, refl, sym, ap, ◌∙◌}
use mathlib.Core.List.{List}
use native.Mathlib.Omega.{arith}
use Rattle.reading.specs.Each.{times}
use Rattle.reading.specs.Reading.{accepted, refused, run, here, and_then, passed}
use Rattle.reading.proofs.RunLaws.{run_bind}
use Rattle.reading.proofs.Repetition.{seen-accepted, seen-refused}
use Rattle.values.specs.Format.{size, type, value_of, array}
use Rattle.values.proofs.ValueForms.{type-known}
use Rattle.values.specs.declared.Dialect.{Dialect}

module _ (k : Dialect) (o : ℕ) (s : List ℕ) (at depth : ℕ) where
  -- where none may stand it is refused, where its own type stands
  pub array-none : depth ≡ 0 → refused 9 o ≡ run (array depth k o) s at
  unfolding array run
  array-none h = rw h

  module _ (deep : depth ≡ 0 → ⊥) where
    -- else its items are read at one depth less
    one_less : run (array depth k o) s at ≡ run (array (suc (depth - 1)) k o) s at
    one_less = let d : depth ≡ suc (depth - 1) = omega arith in ap (λ n. run (array n k o) s at) d

    -- its item type is refused
    pub array_untyped : {w r : ℕ} → refused w r ≡ run (type k) s at → refused w r ≡ run (array depth k o) s at
    unfolding array here run and_then
    array_untyped e = sym (one_less ∙ rw (run_bind, run_bind, ← e) refl)

    module _ {t p : ℕ} (typed : accepted t p ≡ run (type k) s at) where
      -- its count is refused
      pub array_uncounted : {w r : ℕ} → refused w r ≡ run (size k) s p → refused w r ≡ run (array depth k o) s at
      unfolding array here run and_then
      array_uncounted e = sym (one_less ∙ rw (run_bind, run_bind, ← typed, run_bind, ← e) refl)

      module _ {n q : ℕ} (counted : accepted n q ≡ run (size k) s p) where
        -- one of its items is refused
        pub array-stopped : {w r : ℕ} → refused w r ≡ passed (run (times n (value_of (array (depth - 1) k) k at t)) s q) → refused w r ≡ run (array depth k o) s at
        unfolding array here run and_then
        array-stopped e =
            let stopped = seen-refused (λ v. tt {0}) (times n (value_of (array (depth - 1) k) k at t)) s q e in
            sym (one_less ∙ rw (run_bind, run_bind, ← typed, run_bind, ← counted, run_bind, run_bind, ← stopped) refl)

        -- all its items are passed
        pub array-passed : {e : ℕ} → accepted tt e ≡ passed (run (times n (value_of (array (depth - 1) k) k at t)) s q)
            → accepted (record { item = t; count = n; kept = n; first = q }) e ≡ run (array depth k o) s at
        unfolding array here run and_then
        array-passed h =
            let items = seen-accepted (λ v. tt {0}) (times n (value_of (array (depth - 1) k) k at t)) s q h in
            sym (one_less ∙ rw (run_bind, run_bind, ← typed, run_bind, ← counted, run_bind, run_bind, ← items.1) refl)

-- the steps of an array
pub ruleset array_steps = (array-none, array_untyped, array_uncounted, array-stopped, array-passed, type-known)
