-- Programs of which a view shows the same, one after another. Assumes nothing.
use Prim.Native.Nat.{ℕ}
use mathlib.Core.Path.{◌≡◌, refl}
use mathlib.Core.List.{List}
use Rattle.reading.specs.Ceilings.{under}
use Rattle.reading.specs.Reading.{Reading, Answer, accepted, refused, run, seen, and_then, ◌>>=◌}
use Rattle.reading.specs.declared.Limits.{Limits}
use Rattle.reading.proofs.CeilingLaws.{run-under}
use Rattle.reading.proofs.RunLaws.{run_bind}

-- what goes on from an answer of which a view is taken goes on from the view
pub shown-then : {A B C : Type 0} (view : A → B) (x : Answer A) (f : B → ℕ → Answer C) → and_then (seen view x) f ≡ and_then x (λ a q. f (view a) q)
unfolding and_then seen
shown-then view (accepted a q) f = refl
shown-then view (refused n p) f = refl

-- what is made of an answer, and then shown
pub shown-made : {A B C : Type 0} (view : B → C) (f : A → B) (x : Answer A) → seen view (and_then x (λ a q. accepted (f a) q)) ≡ seen (λ a. view (f a)) x
unfolding and_then seen
shown-made view f (accepted a q) = refl
shown-made view f (refused n p) = refl

-- from one answer two ways go on, of which a view shows the same
pub then_same : {A B C : Type 0} (view : B → C) (x : Answer A) (f g : A → ℕ → Answer B) → ((a : A) (q : ℕ) → seen view (f a q) ≡ seen view (g a q)) → seen view (and_then x f) ≡ seen view (and_then x g)
unfolding and_then
then_same view (accepted a q) f g h = h a q
then_same view (refused n p) f g h = refl

-- or of which one is what a view shows of the other
then_shows : {A B C : Type 0} (view : B → C) (x : Answer A) (f : A → ℕ → Answer C) (g : A → ℕ → Answer B) → ((a : A) (q : ℕ) → f a q ≡ seen view (g a q)) → and_then x f ≡ seen view (and_then x g)
unfolding and_then seen
then_shows view (accepted a q) f g h = h a q
then_shows view (refused n p) f g h = refl

module _ {A B C : Type 0} (view : B → C) (m : Reading A) (s : List ℕ) (p : ℕ) where
  -- the same of one program and then two others, and of these under ceilings
  pub bind_shows : (f : A → Reading C) (g : A → Reading B) → ((a : A) (q : ℕ) → run (f a) s q ≡ seen view (run (g a) s q)) → run (m >>= f) s p ≡ seen view (run (m >>= g) s p)
  bind_shows f g h = rw (run_bind m f s p, run_bind m g s p) (then_shows view (run m s p) _ _ h)

  pub bind_same : (f g : A → Reading B) → ((a : A) (q : ℕ) → seen view (run (f a) s q) ≡ seen view (run (g a) s q)) → seen view (run (m >>= f) s p) ≡ seen view (run (m >>= g) s p)
  bind_same f g h = rw (run_bind m f s p, run_bind m g s p) (then_same view (run m s p) _ _ h)

  pub same-under : (l : Limits) (f g : A → Reading B) → ((a : A) (q : ℕ) → seen view (run (under l (f a)) s q) ≡ seen view (run (under l (g a)) s q))
      → seen view (run (under l (m >>= f)) s p) ≡ seen view (run (under l (m >>= g)) s p)
  same-under l f g h = rw (run-under l m f s p, run-under l m g s p) (then_same view (run (under l m) s p) _ _ h)
