-- The thirteen value types: what holds of each, one by one, holds of every type. Assumes nothing.
use Prim.Native.Nat.{ℕ, zero, suc, ◌+◌, ◌-◌, ◌≤◌, ◌<◌}
use mathlib.Core.Path.{◌≡◌, refl, subst, sym}
use mathlib.Core.Bool.{Bool, true, false}
use native.Mathlib.Omega.{arith}
use lib.ListN.{get_or-eq_default, length}
use lib.Dec.{leb, eqb, ltb}
use borrow.Author.Tests.{leb-true, leb-false}
use Rattle.scalars.specs.Scalars.{scalar_widths, scalar_width, scalar_of, scalar_type}

-- every number below n is as P says
abbrev pub Below : (ℕ → Type 0) → ℕ → Type 0
Below P zero = Unit {0}
Below P (suc n) = P 0 × Below (λ t. P (suc t)) n

-- a proof at one number, and those at the numbers after it
abbrev pub ◌&◌ : {A B : Type 0} → A → B → A × B
a & b = (a, b)

infixr 5 ◌&◌
-- so it holds at any of them
pub below : (P : ℕ → Type 0) (n : ℕ) → Below P n → (t : ℕ) → t < n → P t
below P zero all t h = absurd (omega arith)
below P (suc n) all zero h = all.0
below P (suc n) all (suc t) h = below (λ u. P (suc u)) n all.1 t (omega arith)

-- and where it holds at n numbers from i on, at any of those
pub below_from : (P : ℕ → Type 0) (i n : ℕ) → Below (λ k. P (i + k)) n → (t : ℕ) → i ≤ t → t < i + n → P t
below_from P i n all t l h =
    let e : i + (t - i) ≡ t = omega arith in
    subst P e (below (λ k. P (i + k)) n all (t - i) (omega arith))

-- a type above the thirteen has no width
pub no_width : (t : ℕ) → 12 < t → 0 ≡ scalar_width t
unfolding scalar_width
no_width t h =
    let past : length scalar_widths ≤ t = h in
    sym (get_or-eq_default scalar_widths 0 past)

-- a type that has a width is one of the thirteen
pub width_known : (t : ℕ) → 0 < scalar_width t → t ≤ 12
width_known t h = by (leb t 12) refl
  where
    by : (b : Bool) → leb t 12 ≡ b → t ≤ 12
    by true e = leb-true t 12 e
    by false e = absurd (omega (arith, no_width t (leb-false t 12 e)))

-- a scalar has the type of which it was made
pub scalar-typed : (t n : ℕ) → t ≤ 12 → 0 < scalar_width t → scalar_type (scalar_of t n) ≡ t
unfolding scalar_width
scalar-typed t n h =
    below (λ u. 0 < scalar_width u → scalar_type (scalar_of u n) ≡ u) 13
    ((λ w. refl) & (λ w. refl) & (λ w. refl) & (λ w. refl) & (λ w. refl) & (λ w. refl) & (λ w. refl) & (λ w. refl) &
    (λ w. absurd (omega arith)) & (λ w. absurd (omega arith)) & (λ w. refl) & (λ w. refl) & (λ w. refl) & tt) t (omega arith)

-- a type that is no scalar's and not 8 is 9
pub array_typed : (t : ℕ) → t ≤ 12 → ltb 0 (scalar_width t) ≡ false → eqb t 8 ≡ false → t ≡ 9
unfolding scalar_width
array_typed t h =
    below (λ u. ltb 0 (scalar_width u) ≡ false → eqb u 8 ≡ false → u ≡ 9) 13
    ((λ e f. cc) & (λ e f. cc) & (λ e f. cc) & (λ e f. cc) & (λ e f. cc) & (λ e f. cc) & (λ e f. cc) & (λ e f. cc) &
    (λ e f. cc) & (λ e f. refl) & (λ e f. cc) & (λ e f. cc) & (λ e f. cc) & tt) t (omega arith)

-- every type that is neither a text's nor an array's is a scalar's
pub scalar_else : (t : ℕ) → t ≤ 12 → (t ≡ 8 → ⊥) → (t ≡ 9 → ⊥) → 0 < scalar_width t
unfolding scalar_width
scalar_else t h =
    below (λ u. (u ≡ 8 → ⊥) → (u ≡ 9 → ⊥) → 0 < scalar_width u) 13
    ((λ a b. omega arith) & (λ a b. omega arith) & (λ a b. omega arith) & (λ a b. omega arith) & (λ a b. omega arith) & (λ a b. omega arith) &
    (λ a b. omega arith) & (λ a b. omega arith) & (λ a b. absurd (a refl)) & (λ a b. absurd (b refl)) & (λ a b. omega arith) & (λ a b. omega arith) & (λ a b. omega arith) & tt)
    t (omega arith)
