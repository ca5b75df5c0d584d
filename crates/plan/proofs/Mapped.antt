-- What `map_err` was called on, from what it gave. Assumes nothing.
use Rattle.std.specs.Prelude.{◌≡◌, Result, Ok, Err}
use mathlib.Core.Path.{refl}
use Rattle.std.specs.Result.{MatchResult, IsErrAnd}

module _ {T E D : Type 0} (r : Result T E) (m : Result T D) (Q : E → D → Type 0) where
  pub mapped-ok : {x : T} → MatchResult r (λ y. m ≡ Ok y) (λ e. IsErrAnd m (Q e)) → m ≡ Ok x → r ≡ Ok x
  mapped-ok {x} h f = by r h
    where
      by : (r : Result T E) → MatchResult r (λ y. m ≡ Ok y) (λ e. IsErrAnd m (Q e)) → r ≡ Ok x
      by (Ok y) h = cc
      by (Err e) h = absurd (rw f at h)

  pub mapped-err : {d : D} → MatchResult r (λ y. m ≡ Ok y) (λ e. IsErrAnd m (Q e)) → m ≡ Err d → (e : E) × (r ≡ Err e) × Q e d
  mapped-err {d} h f = by r h
    where
      by : (r : Result T E) → MatchResult r (λ y. m ≡ Ok y) (λ e. IsErrAnd m (Q e)) → (e : E) × (r ≡ Err e) × Q e d
      by (Ok y) h = absurd (cc)
      by (Err e) h = (e, refl, rw f at h)
