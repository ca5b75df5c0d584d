-- What more rows may change: nothing but refusal 6. Assumes nothing.
use Prim.Native.Nat.{ℕ, ◌≤◌}
use mathlib.Core.Path.{◌≡◌, refl, sym}
use mathlib.Core.List.{List}
use mathlib.Core.Bool.{Bool, true, false}
use mathlib.Core.Logic.{◌⊎◌, inl, inr}
use native.Mathlib.Omega.{arith}
use lib.Dec.{leb}
use borrow.Author.Tests.{leb-true, le-leb}
use Rattle.reading.specs.Reading.{Reading, Answer, accepted, refused, run, ◌>>=◌, here, check, and_then}
use Rattle.reading.proofs.RunLaws.{run_bind}
use Rattle.values.specs.Format.{size}
use Rattle.values.specs.declared.Dialect.{Dialect}
use Rattle.start.specs.Format.{magic, version, counts, start}
use Rattle.start.specs.declared.Rooms.{Rooms}
use Rattle.header.specs.Format.{header}

-- the answers r and r' are the same, unless r is refusal 6
abbrev pub ButForSix : {A : Type 0} → Answer A → Answer A → Type 0
ButForSix r r' = (r ≡ r') ⊎ ((p : ℕ) × (r ≡ refused 6 p))

six-then : {A B : Type 0} (r r' : Answer A) (g g' : A → ℕ → Answer B) → ButForSix r r' → ((a : A) (q : ℕ) → ButForSix (g a q) (g' a q)) → ButForSix (and_then r g) (and_then r' g')
unfolding and_then
six-then (accepted a q) r' g g' (inl e) h = rw (sym e) (h a q)
six-then (refused n q) r' g g' (inl e) h = rw (sym e) (inl refl)
six-then r r' g g' (inr (p, e)) h = rw e (inr (p, refl))

module _ (s : List ℕ) where
  -- one program after another
  six_bind : {A B : Type 0} (m m' : Reading A) (f f' : A → Reading B) (at : ℕ) → ButForSix (run m s at) (run m' s at) → ((a : A) (q : ℕ) → ButForSix (run (f a) s q) (run (f' a) s q))
      → ButForSix (run (m >>= f) s at) (run (m' >>= f') s at)
  six_bind m m' f f' at first then = rw (run_bind m f s at, run_bind m' f' s at) (six-then (run m s at) (run m' s at) _ _ first then)

  -- a count for which there are rows has rows where there are more
  six-check : (n rows more p at : ℕ) → rows ≤ more → ButForSix (run (check (leb n rows) 6 p) s at) (run (check (leb n more) 6 p) s at)
  unfolding run
  six-check n rows more p at up = by (leb n rows) refl
    where
      by : (b : Bool) → leb n rows ≡ b → ButForSix (run (check b 6 p) s at) (run (check (leb n more) 6 p) s at)
      by true e =
          let within : n ≤ rows = leb-true n rows e in
          rw (le-leb n more (omega arith)) (inl refl)
      by false e = inr (p, refl)

  module _ (rooms more : Rooms) (entries : rooms.entries ≤ more.entries) (tensors : rooms.tensors ≤ more.tensors) where
    six-counts : (k : Dialect) (at : ℕ) → ButForSix (run (counts rooms k) s at) (run (counts more k) s at)
    unfolding counts
    six-counts k at =
        six_bind here here _ _ at (inl refl) (λ p q. six_bind (size k) (size k) _ _ q (inl refl) (λ n o. six_bind here here _ _ o (inl refl) (λ u v. six_bind (size k) (size k) _ _ v (inl refl) (λ m w.
        six_bind _ _ _ _ w (six-check n rooms.tensors more.tensors p w tensors) (λ x y. six_bind _ _ _ _ y (six-check m rooms.entries more.entries u y entries) (λ a b. inl refl))))))

    six-start : ButForSix (run (start rooms) s 0) (run (start more) s 0)
    unfolding start
    six-start = six_bind magic magic _ _ 0 (inl refl) (λ turned q. six_bind (version turned) (version turned) _ _ q (inl refl) (λ k o. six-counts k o))

    -- so what is read with fewer rows is read with more, unless it is refused 6
    pub more_rows : (cap : ℕ) → ButForSix (run (header rooms cap) s 0) (run (header more cap) s 0)
    unfolding header
    more_rows cap = six_bind (start rooms) (start more) _ _ 0 six-start (λ c q. inl refl)
