-- So many numbers of one width: where the last of them ends, or the first that is missing stands.
-- Assumes nothing.
use Prim.Native.Nat.{ℕ, ◌+◌, ◌-◌, ◌*◌, ◌/◌, ◌≤◌, ◌<◌}
use mathlib.Core.Path.{◌≡◌}
use mathlib.Core.Bool.{Bool}
use mathlib.Core.List.{List}
use native.Mathlib.Omega.{arith}
use native.Mathlib.Nat.{div-lt_iff_lt-mul, div-mul-le_self, mul-le-mul_right}
use lib.ListN.{length}
use borrow.Author.Tests.{le-leb, lt-leb}
use Rattle.reading.specs.Each.{times}
use Rattle.reading.specs.Reading.{accepted, refused, run, passed}
use Rattle.fields.specs.Value.{number}
use Rattle.fields.proofs.Numbers.{numbers-passed}

module _ (w : ℕ) (big : Bool) (s : List ℕ) (at n : ℕ) (wide : 0 < w) where
  pub all_there : n ≤ (length s - at) / w → passed (run (times n (number w big)) s at) ≡ accepted tt (at + n * w)
  all_there few =
      let all = div-mul-le_self (length s - at) w in
      rw (numbers-passed w big s wide n at, le-leb (n * w) (length s - at) (omega (arith, mul-le-mul_right w few, all)))

  pub one_missing : (length s - at) / w < n → passed (run (times n (number w big)) s at) ≡ refused 1 (at + (length s - at) / w * w)
  one_missing more = rw (numbers-passed w big s wide n at, lt-leb (n * w) (length s - at) ((div-lt_iff_lt-mul wide).0 more))

pub ruleset scalar_steps = (all_there, one_missing)
