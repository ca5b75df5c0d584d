-- What fits: each product of a shape on the way, where all were tested before. Assumes nothing.
use Rattle.std.specs.Prelude.{if◌then◌else◌}
use Prim.Native.Nat.{ℕ, ◌*◌, ◌≤◌}
use mathlib.Core.Path.{◌≡◌, refl}
use mathlib.Core.List.{List, [], ◌∷◌}
use mathlib.Core.Bool.{Bool, true, false}
use native.Mathlib.Omega.{arith}
use native.Mathlib.Nat.{one-mul}
use lib.Dec.{leb}
use lib.ListN.{get_or}
use mir.Syntax.{w64}
use mir.Val.{Val}
use denote.Laws.{Is}
use denote.Plain.{UInt}
use denote.Array.{Array}
use borrow.Author.Tests.{leb-true}
use Rattle.kinds.specs.Shape.{greatest, product_of, products_fit_from, products_fit}

-- one product, and those that follow it
fit_cases : (x n : ℕ) (l : List ℕ) (b : Bool) → leb (x * n) greatest ≡ b → (if b then products_fit_from (x * n) l else false) ≡ true → (x * n ≤ greatest) × (products_fit_from (x * n) l ≡ true)
fit_cases x n l true e h = (leb-true _ _ e, h)
fit_cases x n l false e h = let z : ◌≡◌ {A = ℕ} 0 1 = cc in absurd (omega arith)

fit_one : (x n : ℕ) (l : List ℕ) → products_fit_from x (n ∷ l) ≡ true → (x * n ≤ greatest) × (products_fit_from (x * n) l ≡ true)
fit_one x n l h = fit_cases x n l (leb (x * n) greatest) refl h

-- the products of four lengths, one after the other
pub record Products (s : List ℕ) : Type 0 where
  pub plane : get_or s 0 0 * get_or s 1 0 ≤ greatest
  pub solid : get_or s 0 0 * get_or s 1 0 * get_or s 2 0 ≤ greatest
  pub whole : get_or s 0 0 * get_or s 1 0 * get_or s 2 0 * get_or s 3 0 ≤ greatest
  pub is : get_or s 0 0 * get_or s 1 0 * get_or s 2 0 * get_or s 3 0 ≡ product_of s

-- an array of four numbers whose products were tested has such products
pub products : (s : List ℕ) (vs : List Val) → Is (Array (UInt w64) 4) s vs → products_fit s ≡ true → Products s
products (a ∷ b ∷ c ∷ d ∷ []) vs p h =
    let e : 1 * a ≡ a = one-mul a in
    let first = fit_one 1 a (b ∷ c ∷ d ∷ []) h in
    let second = fit_one (1 * a) b (c ∷ d ∷ []) first.1 in
    let third = fit_one (1 * a * b) c (d ∷ []) second.1 in
    let fourth = fit_one (1 * a * b * c) d [] third.1 in
    record { plane = rw e at second.0; solid = rw e at third.0; whole = rw e at fourth.0; is = rw e refl }
products [] vs p h = absurd (omega (arith, p.1.0.1))
products (a ∷ []) vs p h = absurd (omega (arith, p.1.0.1))
products (a ∷ b ∷ []) vs p h = absurd (omega (arith, p.1.0.1))
products (a ∷ b ∷ c ∷ []) vs p h = absurd (omega (arith, p.1.0.1))
products (a ∷ b ∷ c ∷ d ∷ e ∷ l) vs p h = absurd (omega (arith, p.1.0.1))
