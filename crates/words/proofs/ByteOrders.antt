-- The number of a byte order says the form: what a header's words tell of it is what a writer is to
-- be asked for to have the same form again. Assumes nothing.
use Rattle.std.specs.Prelude.{if◌then◌else◌}
use Prim.Native.Nat.{ℕ}
use mathlib.Core.Path.{◌≡◌, refl}
use mathlib.Core.Bool.{Bool, true, false}
use native.Mathlib.Omega.{arith}
use Rattle.start.specs.Format.{known_dialect}
use Rattle.header.specs.declared.Header.{Header}
use Rattle.header.specs.Contents.{dialect_in}
use Rattle.words.specs.Words.{byte_order, dialect_of}

-- of any header whose form is known, as that of every header is that was read
pub same_form : (h : Header) → known_dialect (dialect_in h) ≡ true → dialect_of h.version (byte_order h) ≡ dialect_in h
same_form h known = by h.version h.big h.turned known
  where
    by : (v : ℕ) (big turned : Bool) → known_dialect (record { version = v; big = big; turned = turned }) ≡ true
        → dialect_of v (if big then (if turned then 2 else 1) else 0) ≡ record { version = v; big = big; turned = turned }
    by v true true e = refl
    by v true false e = refl
    by v false true e = let z : ◌≡◌ {A = ℕ} 0 1 = cc in absurd (omega arith)
    by v false false e = refl
