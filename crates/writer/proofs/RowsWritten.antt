-- Records that a sheet has in a row, read and written one after the other: what is written, and
-- what is left of the sheet. Assumes nothing.
use Rattle.std.specs.Prelude.{Some}
use Prim.Native.Nat.{ℕ, zero, suc, ◌+◌, ◌-◌, ◌≤◌, ◌<◌}
use mathlib.Core.Path.{◌≡◌, refl, sym, ap, subst, ◌∙◌}
use mathlib.Core.Bool.{true}
use mathlib.Core.List.{List, [], ◌∷◌, ◌++◌, append_assoc}
use native.Mathlib.Nat.{sub-zero}
use native.Mathlib.Omega.{arith}
use lib.ListN.{length, length-append, take, drop}
use borrow.Rule.Slice.PartMut.{mid_of, put_mid}
use Rattle.reading.specs.Back.{got, bytes_of_all}
use Rattle.fields.specs.Bytes.{Wrote}
use Rattle.reading.specs.Each.{each, times}
use Rattle.reading.specs.Reading.{Reading, done, Answer, accepted, refused, run, is_accepted}
use Rattle.reading.proofs.RunLaws.{goes_on, bind_inv}
use Rattle.reading.proofs.Repetition.{times-accepted, times-got, times-ends, times-never}
use Rattle.sheet.proofs.BackFromAnswers.{steps_on}
use Rattle.writer.proofs.Loops.{Part, part-start, part-turn, part_end, part_room}
use Rattle.sheet.specs.Steps.{step_of}

-- what was written, by another name
pub wrote_as : {l m old out : List ℕ} {n : ℕ} → l ≡ m → Wrote l old out n → Wrote m old out n
wrote_as {old = old} {out} {n} e w = subst (λ x. Wrote x old out n) e w

-- rows before others
pub rows_append : {C : Type 0} (enc : C → List ℕ) (l m : List C) → bytes_of_all enc (l ++ m) ≡ bytes_of_all enc l ++ bytes_of_all enc m
unfolding bytes_of_all
rows_append enc [] m = refl
rows_append enc (c ∷ l) m = rw (rows_append enc l m, append_assoc)

-- the record that stands at a place, and that there is room for it
pub record Next {A : Type 0} (m : Reading A) (enc : A → List ℕ) (s : List ℕ) (from done : ℕ) (out : List ℕ) : Type 0 where
  pub what : A
  pub after : ℕ
  pub is : accepted what after ≡ run m s from
  pub room : done + length (enc what) ≤ length out

module _ {A : Type 0} (m : Reading A) (enc : A → List ℕ) (s : List ℕ) (at n : ℕ) where
  -- i records of n are written, done bytes, and the others, which are all there, stand from the
  -- place on
  pub record Left (o out : List ℕ) (from done i : ℕ) : Type 0 where
    pub low : i ≤ n
    pub all : is_accepted (run (times (n - i) m) s from) ≡ true
    pub ends : step_of (run (times n m) s at) ≡ step_of (run (times (n - i) m) s from)
    pub part : Part o out done (bytes_of_all enc (got (run (times (n - i) m) s from))) (bytes_of_all enc (got (run (times n m) s at)))

  pub left-start : (o : List ℕ) → is_accepted (run (times n m) s at) ≡ true → Left o o at 0 0
  left-start o h = record {
    low = omega arith;
    all = rw sub-zero h;
    ends = rw sub-zero;
    part = rw sub-zero (part-start o (bytes_of_all enc (got (run (times n m) s at))));
  }

  module _ {o out : List ℕ} {from done i : ℕ} (h : Left o out from done i) where
    -- the turn's own row
    turned : i < n → {a : A} {q : ℕ} → accepted a q ≡ run m s from → bytes_of_all enc (got (run (times (n - i) m) s from)) ≡ enc a ++ bytes_of_all enc (got (run (times (n - (i + 1)) m) s q))
    unfolding bytes_of_all
    turned below e = ap (bytes_of_all enc) (times-got m s from n i below e h.all)

    pub left-room : i < n → {a : A} {q : ℕ} → accepted a q ≡ run m s from → length (bytes_of_all enc (got (run (times n m) s at))) ≤ length o → done + length (enc a) ≤ length out
    left-room below {a} {q} e room =
        let t = ap length (turned below e) ∙ length-append (enc a) (bytes_of_all enc (got (run (times (n - (i + 1)) m) s q))) in
        omega (arith, part_room h.part room, t)

    next-by : i < n → length (bytes_of_all enc (got (run (times n m) s at))) ≤ length o → (r : Answer A) → r ≡ run m s from → Next m enc s from done out
    next-by below room (accepted a q) e = record { what = a; after = q; is = e; room = left-room below e room }
    next-by below room (refused w p) e = absurd (times-never m s from n i below e h.all)

    pub left-next : i < n → length (bytes_of_all enc (got (run (times n m) s at))) ≤ length o → Next m enc s from done out
    left-next below room = next-by below room (run m s from) refl

    pub left-turn : i < n → {a : A} {q : ℕ} → accepted a q ≡ run m s from → {l ys : List ℕ} {w : ℕ} → l ≡ enc a → Wrote l (mid_of done (length out - done) out) ys w
        → length ys ≡ length (mid_of done (length out - done) out) → Left o (put_mid done (length out - done) out ys) q (done + w) (i + 1)
    left-turn below {a} {q} e {l} {ys} {w} same wrote long = record {
      low = omega arith;
      all = times-accepted m s from n i below e h.all;
      ends = h.ends ∙ steps_on m s from n i below (ap step_of e);
      part = part-turn l (bytes_of_all enc (got (run (times (n - (i + 1)) m) s q))) ys w h.part (rw same (turned below e)) wrote long;
    }

    pub left_end : n ≤ i → Wrote (bytes_of_all enc (got (run (times n m) s at))) o out done × (Some from ≡ step_of (run (times n m) s at))
    unfolding bytes_of_all
    left_end over =
        let e = times-ends m s from n i over in
        (part_end h.part (ap (λ r. bytes_of_all enc (got r)) e), sym (h.ends ∙ ap step_of e))

-- n records of n + j, and those after them
pub record Split {A : Type 0} (m : Reading A) (s : List ℕ) (n j at : ℕ) (l : List A) (e : ℕ) : Type 0 where
  pub mid : ℕ
  pub lower : accepted (take n l) mid ≡ run (times n m) s at
  pub upper : accepted (drop n l) e ≡ run (times j m) s mid

module _ {A : Type 0} (m : Reading A) (s : List ℕ) (j : ℕ) where
  -- one more before those
  consed : (n at : ℕ) {a : A} {q : ℕ} {l : List A} {e : ℕ} → accepted a q ≡ run m s at → accepted l e ≡ run (times n m) s q → accepted (a ∷ l) e ≡ run (times (suc n) m) s at
  unfolding each run
  consed n at {a} {q} i k = sym (goes_on m _ s at i ∙ goes_on (times n m) (λ l. done (a ∷ l)) s q k)

  unconsed : (n at : ℕ) {l : List A} {e : ℕ} → accepted l e ≡ run (times (suc n) m) s at → (a : A) × (q : ℕ) × (k : List A) × (accepted a q ≡ run m s at) × (accepted k e ≡ run (times n m) s q) × (l ≡ a ∷ k)
  unfolding each run
  unconsed n at {l} {e} h =
      let i = bind_inv m _ s at h in
      let k = bind_inv (times n m) (λ l. done (i.0 ∷ l)) s i.1 i.3 in
      let f : accepted l e ≡ accepted (i.0 ∷ k.0) k.1 = k.3 in
      let u : e ≡ k.1 = cc in
      (i.0, i.1, k.0, i.2, ap (accepted k.0) u ∙ k.2, cc)

  pub split : (n at : ℕ) {l : List A} {e : ℕ} → accepted l e ≡ run (times (n + j) m) s at → Split m s n j at l e
  unfolding each run
  split zero at {l} {e} h =
      let k : zero + j ≡ j = omega arith in
      record { mid = at; lower = refl; upper = rw k at h }
  split (suc n) at {l} {e} h =
      let k : suc n + j ≡ suc (n + j) = omega arith in
      let i = unconsed (n + j) at (rw k at h) in
      let r = split n i.1 i.4 in
      rw i.5 (record { mid = r.mid; lower = consed n at i.3 r.lower; upper = r.upper })
