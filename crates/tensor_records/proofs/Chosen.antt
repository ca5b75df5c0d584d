-- What a test chooses, by how it came out.
-- Assumes nothing.
use Rattle.std.specs.Prelude.{if◌then◌else◌}
use mathlib.Core.Path.{◌≡◌, refl}
use mathlib.Core.Bool.{Bool, true, false, not}
use lib.Dec.{T}

pub held : (b : Bool) → T b → {A : Type 0} (x y : A) → (true ≡ b) × (x ≡ (if b then x else y))
held true h x y = (refl, refl)
held false h x y = absurd h

pub failed : (b : Bool) → T (not b) → {A : Type 0} (x y : A) → (false ≡ b) × (y ≡ (if b then x else y))
failed true h x y = absurd h
failed false h x y = (refl, refl)
