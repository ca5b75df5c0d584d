-- So many fields of one width, one after the other, whatever they say: a division tells how many of
-- them are there. Assumes nothing.
use Rattle.std.specs.Prelude.{if◌then◌else◌}
use Prim.Native.Nat.{ℕ, zero, suc, ◌+◌, ◌-◌, ◌*◌, ◌/◌, ◌≤◌, ◌<◌}
use mathlib.Core.Path.{◌≡◌, refl, sym, ap, ◌∙◌}
use mathlib.Core.Bool.{Bool, true, false}
use mathlib.Core.List.{List}
use native.Mathlib.Omega.{arith}
use native.Mathlib.Nat.{suc-mul, div-mul-le_self, lt-div-mul-add, le-div_iff_mul-le, div-lt_iff_lt-mul}
use lib.ListN.{length, take, drop}
use lib.Dec.{leb, leb-zero, leb-suc-zero, leb-suc-suc}
use borrow.Author.Tests.{leb-true, leb-false, le-leb, lt-leb}
use Rattle.reading.specs.Each.{each, times}
use Rattle.reading.specs.Reading.{Reading, done, field, accepted, refused, run, seen, passed}
use Rattle.reading.proofs.Repetition.{times-first, times_none}
use Rattle.reading.proofs.RunLaws.{field-there, field-missing}

-- n are no more than the quotient exactly if their bytes are no more than b
same_test : (w n b : ℕ) → 0 < w → leb n (b / w) ≡ leb (n * w) b
same_test w n b wide = by (leb n (b / w)) refl
  where
    by : (t : Bool) → leb n (b / w) ≡ t → t ≡ leb (n * w) b
    by true e = sym (le-leb (n * w) b ((le-div_iff_mul-le wide).0 (leb-true n (b / w) e)))
    by false e = sym (lt-leb (n * w) b ((div-lt_iff_lt-mul wide).0 (leb-false n (b / w) e)))

module _ {A : Type 0} (l w : ℕ) (f : List ℕ → A) (s : List ℕ) where
  -- one of them: there, and missing
  abbrev one : Reading A
  one = field l w (λ bs. done (f bs))

  there : (at : ℕ) → at + w ≤ length s → accepted (f (take l (take w (drop at s)))) (at + w) ≡ run one s at
  unfolding run
  there at h = sym (field-there l w (λ bs. done (f bs)) s at h)

  missing : (at : ℕ) → length s < at + w → refused 1 at ≡ run one s at
  missing at h = sym (field-missing l w (λ bs. done (f bs)) s at h)

  -- n of them, where k are there and no more
  counted : (n k at : ℕ) → k * w ≤ length s - at → length s - at < k * w + w
      → passed (run (times n one) s at) ≡ (if leb n k then accepted tt (at + n * w) else refused 1 (at + k * w))
  unfolding each run seen
  counted zero k at low high = rw (leb-zero k) (ap (accepted tt) (omega arith))
  counted (suc n) zero at low high =
      rw (leb-suc-zero n) (times_none one s at n (missing at (omega arith)) ∙ ap (refused 1) (omega arith))
  counted (suc n) (suc k) at low high =
      let e : suc k * w ≡ k * w + w = suc-mul k w in
      let q : at + w + n * w ≡ at + suc n * w = rw (suc-mul n w) (omega arith) in
      let p : at + w + k * w ≡ at + suc k * w = omega arith in
      rw (leb-suc-suc n k, ← q, ← p) (times-first one s at n (there at (omega arith)) ∙ counted n k (at + w) (omega arith) (omega arith))

  -- all n are there exactly if their bytes are; else the first that is missing stands where the
  -- quotient of the bytes that are left says
  pub times_width : 0 < w → (n at : ℕ)
      → passed (run (times n one) s at) ≡ (if leb (n * w) (length s - at) then accepted tt (at + n * w) else refused 1 (at + (length s - at) / w * w))
  times_width wide n at =
      rw (← same_test w n (length s - at) wide) (counted n ((length s - at) / w) at (div-mul-le_self (length s - at) w) (lt-div-mul-add wide))
