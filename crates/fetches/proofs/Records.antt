-- The records of a trace: what one that was read is, and the turns of a check of them all. Assumes
-- nothing.
use Rattle.reading.specs.Replies.{Reply, gives, refuses}
use Rattle.std.specs.Prelude.{if◌then◌else◌}
use Prim.Native.Nat.{ℕ, zero, suc, ◌+◌, ◌-◌, ◌*◌, ◌^◌, ◌≤◌, ◌<◌}
use mathlib.Core.Path.{◌≡◌, refl, sym, ap, ◌∙◌}
use mathlib.Core.Bool.{true, false}
use mathlib.Core.List.{List, [], ◌∷◌}
use native.Mathlib.Omega.{arith}
use lib.Dec.{ltb, eqb}
use lib.ListN.{length, take, drop, get_or}
use lib.Seq.{take-take}
use borrow.Author.Tests.{le-leb, lt-leb, ltb-true, eqb-true, lt-ltb, le-ltb, eq-eqb, ne_eqb}
use Rattle.reading.specs.Back.{got, Sure}
use Rattle.reading.specs.Each.{each, times}
use Rattle.reading.specs.Reading.{Answer, accepted, refused, run, ◌>>=◌, here, is_accepted, seen, passed}
use Rattle.reading.proofs.Repetition.{times-first, times_none}
use Rattle.reading.proofs.RunLaws.{goes_on, stops, test-holds, test_fails}
use Rattle.reading.proofs.SureLaws.{sure_here, sure_then, sure_field, sure_check, sure_done}
use Rattle.fields.specs.Value.{value, number}
use Rattle.fields.proofs.Numbers.{number-there, number-missing, one_byte}
use Rattle.fields.proofs.NumberFields.{number-told}
use Rattle.fetches.specs.Trace.{fetch_of, fetch_at, fetch_end, fetch, trace, starting, cut_is43, fetches}
use Rattle.fetches.specs.Replay.{reply_to}
use Rattle.fetches.specs.Sweep.{nth}
use Rattle.fetches.specs.declared.Fetch.{Fetch}

-- bytes of a part of a list are bytes of the list
pub part : (k w n : ℕ) (l : List ℕ) → k + w ≤ n → take w (drop k (take n l)) ≡ take w (drop k l)
part zero w n l h = take-take w n l (omega arith)
part (suc k) w zero l h = absurd (omega arith)
part (suc k) w (suc n) [] h = refl
part (suc k) w (suc n) (x ∷ l) h = part k w n l (omega arith)

-- a record at p: cut, with another length, with an end that is too far, and good
module _ (s : List ℕ) (p : ℕ) where
  fetch-cut : length s < p + 20 → run fetch s p ≡ refused 1 p
  unfolding run fetch here ◌>>=◌
  fetch-cut h = rw (lt-leb (p + 20) (length s) h)

  module _ (h : p + 20 ≤ length s) where
    fetch-long : eqb (value true (take 4 (drop p s))) 16 ≡ false → run fetch s p ≡ refused 43 p
    unfolding run fetch here ◌>>=◌
    fetch-long e = rw (le-leb (p + 20) (length s) h, take-take 20 20 (drop p s) (omega arith), part 0 4 20 (drop p s) (omega arith), e)

    fetch_far : eqb (value true (take 4 (drop p s))) 16 ≡ true → ltb (fetch_end (fetch_at s p)) (2 ^ 64) ≡ false → run fetch s p ≡ refused 44 p
    unfolding run fetch here ◌>>=◌
    fetch_far e f = rw (le-leb (p + 20) (length s) h, take-take 20 20 (drop p s) (omega arith), part 0 4 20 (drop p s) (omega arith), e, f)

    fetch-good : eqb (value true (take 4 (drop p s))) 16 ≡ true → ltb (fetch_end (fetch_at s p)) (2 ^ 64) ≡ true → run fetch s p ≡ accepted (fetch_at s p) (p + 20)
    unfolding run fetch here ◌>>=◌
    fetch-good e f = rw (le-leb (p + 20) (length s) h, take-take 20 20 (drop p s) (omega arith), part 0 4 20 (drop p s) (omega arith), e, f)

-- a good record stands at p
pub record Good (s : List ℕ) (p : ℕ) : Type 0 where
  pub inside : p + 20 ≤ length s
  pub sixteen : value true (take 4 (drop p s)) ≡ 16
  pub fits : fetch_end (fetch_at s p) < 2 ^ 64

sure_fetch : (s : List ℕ) (p : ℕ) → Sure s fetch p (λ f q. (q ≡ p + 20) × Good s p × (f ≡ fetch_at s p))
unfolding fetch
sure_fetch s p =
    sure_here _
    (sure_then (sure_field {Q = λ bs q. (q ≡ p + 20) × (p + 20 ≤ length s) × (bs ≡ take 20 (drop p s))} (λ h. (refl, h, take-take 20 20 (drop p s) (omega arith))))
    (λ bs q t. sure_check (eqb (value true (take 4 bs)) 16) 43 p _ (λ e. sure_check (ltb (fetch_end (fetch_of bs)) (2 ^ 64)) 44 p _ (λ g. sure_done (t.0, good bs t.1 t.2 e g, ap fetch_of t.2)))))
  where
    good : (bs : List ℕ) → p + 20 ≤ length s → bs ≡ take 20 (drop p s) → eqb (value true (take 4 bs)) 16 ≡ true → ltb (fetch_end (fetch_of bs)) (2 ^ 64) ≡ true → Good s p
    good bs h i e g =
        let four : take 4 bs ≡ take 4 (drop p s) = ap (take 4) i ∙ part 0 4 20 (drop p s) (omega arith) in
        record { inside = h; sixteen = rw (← four) (eqb-true _ _ e); fits = rw (← i) (ltb-true _ _ g) }

-- k good records stand from p on, and l is what they fetched
record Listed (s : List ℕ) (p k : ℕ) (l : List Fetch) : Type 0 where
  count : length l ≡ k
  inside : p ≤ length s → p + 20 * k ≤ length s
  each : (i at : ℕ) → i < k → at ≡ p + 20 * i → Good s at × (nth l i ≡ fetch_at s at)

module _ (s : List ℕ) where
  listed_cons : (k p q : ℕ) (f : Fetch) (l : List Fetch) → q ≡ p + 20 → Good s p → f ≡ fetch_at s p → Listed s q k l → Listed s p (suc k) (f ∷ l)
  listed_cons k p q f l e good fetched t =
      record { count = ap suc t.count; inside = λ h. omega (arith, t.inside (omega (arith, good.inside))); each = all }
    where
      all : (i at : ℕ) → i < suc k → at ≡ p + 20 * i → Good s at × (nth (f ∷ l) i ≡ fetch_at s at)
      all zero at h g = let first : at ≡ p = omega arith in rw first (good, fetched)
      all (suc i) at h g = t.each i at (omega arith) (omega arith)

  sure_listed : (k p : ℕ) → Sure s (times k fetch) p (λ l q. Listed s p k l)
  unfolding each
  sure_listed zero p = sure_done (record { count = refl; inside = λ h. omega arith; each = λ i at g e. absurd (omega arith) })
  sure_listed (suc k) p =
      sure_then (sure_fetch s p) (λ f q t. sure_then (sure_listed k q) (λ l r g. sure_done (listed_cons k p q f l t.0 t.1 t.2 g)))

  -- the version, 1, and then n records
  record Traced (n : ℕ) (l : List Fetch) : Type 0 where
    some : 1 ≤ length s
    one : value true (take 1 (drop 0 s)) ≡ 1
    list : Listed s 1 n l

  sure_trace : (n : ℕ) → Sure s (trace n) 0 (λ l q. Traced n l)
  unfolding trace
  sure_trace n =
      sure_then (number-told s 1 true 0)
      (λ v p t. sure_check (eqb v 1) 43 0 _ (λ e. record {
        holds = λ l q g. record {
          some = omega (arith, t.0, t.1);
          one = sym t.2 ∙ eqb-true _ _ e;
          list = rw t.0 at ((sure_listed n p).holds l q g);
        };
      }))

  whole_by : (r : Answer (List Fetch)) → r ≡ run (trace (starting (length s - 1))) s 0 → is_accepted (cut_is43 r) ≡ true → Traced (starting (length s - 1)) (got (cut_is43 r))
  whole_by (accepted l q) e h = (sure_trace (starting (length s - 1))).holds l q e
  whole_by (refused n p) e h = let z : ◌≡◌ {A = ℕ} 0 1 = cc in absurd (omega arith)

  -- a well-formed trace of n records: there is nothing after the last
  pub record Whole (n : ℕ) : Type 0 where
    pub long : length s ≡ 1 + 20 * n
    pub one : value true (take 1 (drop 0 s)) ≡ 1
    pub good : (i : ℕ) → i < n → Good s (1 + 20 * i)

  module _ (a : is_accepted (fetches s) ≡ true) where
    traced : Traced (starting (length s - 1)) (got (fetches s))
    unfolding fetches
    traced = whole_by (run (trace (starting (length s - 1))) s 0) refl a

    -- a trace that is accepted is well formed
    pub whole : Whole (length (got (fetches s)))
    whole =
        let t = traced in
        record {
          long = omega (arith, t.list.count, t.list.inside t.some, t.some);
          one = t.one;
          good = λ i g. (t.list.each i (1 + 20 * i) (omega (arith, t.list.count)) refl).0;
        }

    -- and what its records fetched is in its answer
    pub fetched : (i : ℕ) → i < length (got (fetches s)) → nth (got (fetches s)) i ≡ fetch_at s (1 + 20 * i)
    fetched i g = let t = traced in (t.list.each i (1 + 20 * i) (omega (arith, t.list.count)) refl).1

  -- what the check of the records from a place on answers
  abbrev pub rest : ℕ → Reply (Unit {0})
  rest at = reply_to (cut_is43 (passed (run (times (starting (length s - at)) fetch) s at)))

  pub rest_end : (at : ℕ) → length s ≤ at → rest at ≡ gives tt
  unfolding run each seen
  rest_end at h = let k : starting (length s - at) ≡ 0 = omega arith in rw k

  module _ (at : ℕ) (h : at < length s) where
    turn : starting (length s - at) ≡ suc (starting (length s - (at + 20)))
    turn = omega arith

    rest-stops : {n p : ℕ} → refused n p ≡ run fetch s at → rest at ≡ refuses (if eqb n 1 then 43 else n) p
    rest-stops e = rw (turn, times_none fetch s at (starting (length s - (at + 20))) e)

    -- the four ways to go on
    pub rest-cut : length s - at < 20 → rest at ≡ refuses 43 at
    rest-cut g = rest-stops (sym (fetch-cut s at (omega arith)))

    module _ (g : at + 20 ≤ length s) where
      pub rest-long : (value true (take 4 (drop at s)) ≡ 16 → ⊥) → rest at ≡ refuses 43 at
      rest-long e = rest-stops (sym (fetch-long s at g (ne_eqb _ _ e)))

      pub rest_far : value true (take 4 (drop at s)) ≡ 16 → 2 ^ 64 ≤ fetch_end (fetch_at s at) → rest at ≡ refuses 44 at
      rest_far e f = rest-stops (sym (fetch_far s at g (eq-eqb _ _ e) (le-ltb _ _ f)))

      pub rest-on : value true (take 4 (drop at s)) ≡ 16 → fetch_end (fetch_at s at) < 2 ^ 64 → rest at ≡ rest (at + 20)
      rest-on e f = rw (turn, times-first fetch s at (starting (length s - (at + 20))) (sym (fetch-good s at g (eq-eqb _ _ e) (lt-ltb _ _ f))))

-- what is answered is accepted
pub answered : {A : Type 0} (r : Answer A) → reply_to r ≡ gives tt → is_accepted r ≡ true
answered (accepted a q) e = refl
answered (refused n p) e = let z : ◌≡◌ {A = ℕ} 0 1 = cc in absurd (omega arith)

-- what is answered hangs on no more than the place
reply-passed : {A : Type 0} (r : Answer A) → reply_to (cut_is43 r) ≡ reply_to (cut_is43 (passed r))
unfolding seen
reply-passed (accepted a q) = refl
reply-passed (refused n p) = refl

-- the check of the version
module _ (s : List ℕ) where
  pub no_version : length s ≡ 0 → reply_to (fetches s) ≡ refuses 43 0
  unfolding fetches trace
  no_version h = rw (stops (number 1 true) _ s 0 (sym (number-missing 1 true s 0 (omega arith))))

  module _ (h : 0 < length s) where
    pub other-version : (value true (take 1 (drop 0 s)) ≡ 1 → ⊥) → reply_to (fetches s) ≡ refuses 43 0
    unfolding fetches trace
    other-version e =
        rw (goes_on (number 1 true) _ s 0 (sym (number-there 1 true s 0 (omega arith))), test_fails 43 0 (times (starting (length s - 1)) fetch) s (0 + 1) (ne_eqb _ _ e))

    pub version-one : value true (take 1 (drop 0 s)) ≡ 1 → reply_to (fetches s) ≡ rest s 1
    unfolding fetches trace
    version-one e =
        rw (goes_on (number 1 true) _ s 0 (sym (number-there 1 true s 0 (omega arith))), test-holds 43 0 (times (starting (length s - 1)) fetch) s (0 + 1) (eq-eqb _ _ e))
        (reply-passed (run (times (starting (length s - 1)) fetch) s 1))

    -- the version is the first byte
    pub first_byte : value true (take 1 (drop 0 s)) ≡ get_or s 0 0
    first_byte = one_byte true s 0 (omega arith)

  -- a well-formed trace is accepted
  module _ {n : ℕ} (t : Whole s n) where
    rest-good : (k i : ℕ) → i + k ≡ n → rest s (1 + 20 * i) ≡ gives tt
    rest-good zero i e = rest_end s (1 + 20 * i) (omega (arith, t.long))
    rest-good (suc k) i e =
        let g = t.good i (omega arith) in
        let next : 1 + 20 * i + 20 ≡ 1 + 20 * suc i = omega arith in
        rest-on s (1 + 20 * i) (omega (arith, g.inside)) g.inside g.sixteen g.fits ∙ ap (rest s) next ∙ rest-good k (suc i) (omega arith)

    pub well_formed : is_accepted (fetches s) ≡ true
    well_formed = answered (fetches s) (version-one (omega (arith, t.long)) t.one ∙ rest-good n 0 (omega arith))
