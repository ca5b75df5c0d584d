-- Where two answers are the same, so is what they hold.
use Rattle.std.specs.Prelude.{◌≡◌, ℕ, Option, Some, Result, Ok, Err}
use mathlib.Core.Path.{ap}
use Rattle.reading.specs.Reading.{accepted}
use Rattle.reading.specs.Replies.{Reply, gives, refuses}

pub same_ok : {A B : Type 0} (x y : A) → ◌≡◌ {A = Result A B} (Ok x) (Ok y) → x ≡ y
same_ok x y e = cc

pub same_err : {A B : Type 0} (x y : B) → ◌≡◌ {A = Result A B} (Err x) (Err y) → x ≡ y
same_err x y e = cc

pub same_read : {A : Type 0} (x y : A) (p q : ℕ) → accepted x p ≡ accepted y q → (x ≡ y) × (p ≡ q)
same_read x y p q e = (cc, cc)

pub same_given : {A : Type 0} (x y : A) → gives x ≡ gives y → x ≡ y
same_given x y e = cc

pub same_refusal : {A : Type 0} (n p m q : ℕ) → ◌≡◌ {A = Reply A} (refuses n p) (refuses m q) → (n ≡ m) × (p ≡ q)
same_refusal n p m q e = (cc, cc)

pub same_some : {A : Type 0} (x y : A) → Some x ≡ Some y → x ≡ y
same_some x y e = cc

-- of pairs: both parts
pub same_found : {A B : Type 0} (x y : A) (p q : B) → ◌≡◌ {A = Option (A × B)} (Some (x, p)) (Some (y, q)) → (x ≡ y) × (p ≡ q)
same_found x y p q e = let z = same_some _ _ e in (ap (λ t. t.0) z, ap (λ t. t.1) z)

pub same_ok_pair : {A B E : Type 0} (x y : A) (p q : B) → ◌≡◌ {A = Result (A × B) E} (Ok (x, p)) (Ok (y, q)) → (x ≡ y) × (p ≡ q)
same_ok_pair x y p q e = let z = same_ok _ _ e in (ap (λ t. t.0) z, ap (λ t. t.1) z)
