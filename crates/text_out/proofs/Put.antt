-- Texts put one after the other, each as far as there is room. Assumes nothing.
use Prim.Native.Nat.{ℕ, zero, suc, ◌+◌, ◌-◌, ◌≤◌, min}
use mathlib.Core.Path.{◌≡◌, refl, sym, ap, subst, ◌∙◌}
use mathlib.Core.List.{List, [], ◌∷◌, ◌++◌}
use native.Mathlib.Omega.{arith}
use native.Mathlib.Nat.{sub-zero, suc-sub-suc}
use lib.ListN.{length, take, drop, length-append, length-drop, length-take}
use lib.Seq.{take_all, take-nil, length-take-le, length_front}
use borrow.Rule.Slice.PartMut.{mid_of, put_mid}
use Rattle.fields.specs.Bytes.{Wrote}
use Rattle.fields.proofs.Chain.{chain, lent, back}
use Rattle.text_out.specs.Put.{Put}

-- what fits of two texts in a row: what fits of the first, and what fits of the second in the room
-- that is left
take-both : (n : ℕ) (l e : List ℕ) → take n (l ++ e) ≡ take n l ++ take (n - length (take n l)) e
take-both zero l e = refl
take-both (suc n) [] e = rw (sub-zero (suc n))
take-both (suc n) (x ∷ l) e = rw (suc-sub-suc n (length (take n l))) (ap (λ t. x ∷ t) (take-both n l e))

take-least : (n k : ℕ) (l : List ℕ) → n ≡ min k (length l) → take n l ≡ take k l
take-least zero zero l e = refl
take-least zero (suc k) [] e = refl
take-least zero (suc k) (x ∷ l) e = absurd (omega arith)
take-least (suc n) zero l e = absurd (omega arith)
take-least (suc n) (suc k) [] e = refl
take-least (suc n) (suc k) (x ∷ l) e = ap (λ t. x ∷ t) (take-least n k l (omega arith))

-- what fits is no longer than the room
take_short : (n : ℕ) (l : List ℕ) → length (take n l) ≤ n
take_short n l = omega (arith, length-take n l)

-- a writer keeps the length of its output
pub put-long : {l o out : List ℕ} {n : ℕ} → Put l o out n → length out ≡ length o
put-long {l} {o} {out} {n} h =
    let t = take (length o) l in
    let short = take_short (length o) l in
    ap length h.wrote.bytes ∙ length-append t (drop (length t) o) ∙ omega (arith, length-drop (length t) o, short)

-- a text, and one after it in the rest of the output: both texts in a row
pub put-chain : {l e o out ys : List ℕ} {a n : ℕ} → Put l o out a → Put e (mid_of a (length out - a) out) ys n
    → Put (l ++ e) o (put_mid a (length out - a) out ys) (a + n)
put-chain {l} {e} {o} {out} {ys} {a} {n} h j =
    let long = put-long h in
    let rest : length (mid_of a (length out - a) out) ≡ length o - length (take (length o) l) = ap length (lent a out) ∙ length-drop a out ∙ omega (arith, h.wrote.count) in
    let both : take (length o) (l ++ e) ≡ take (length o) l ++ take (length (mid_of a (length out - a) out)) e = take-both (length o) l e ∙ ap (λ k. take (length o) l ++ take k e) (sym rest) in
    record {
      inside = rw (back a out ys, length-append (take a out) ys, length-take-le a out h.inside) (omega (arith, j.inside));
      wrote = rw both (chain h.wrote j.wrote);
    }

-- a part of a text, as long as the text or as the room, whichever is shorter
pub put-part : {text old out : List ℕ} {n k : ℕ} → n ≡ min (length old) (length text) → Wrote (take (n - 0) (drop 0 text)) old out k → Put text old out k
put-part {text} {old} {out} {n} {k} short w =
    let v : Wrote (take n text) old out k = rw (sub-zero n) at w in
    let fits : length (take n text) ≡ n = length-take-le n text (omega arith) in
    let same : take n text ≡ take (length old) text = take-least n (length old) text short in
    record {
      inside = rw (v.bytes, length_front old (take n text) (length (take n text)) (sym (length-take-le (length (take n text)) old (omega arith)))) (omega (arith, v.count));
      wrote = rw (← same) v;
    }

-- the end of a list from the place a on, as a part of it up to its length
pub put-end : {text old out : List ℕ} {n : ℕ} (a k : ℕ) (l : List ℕ) → length l ≤ k → drop a l ≡ text → Put (mid_of a (k - a) l) old out n → Put text old out n
put-end {old = old} {out} {n} a k l short e w = subst (λ t. Put t old out n) (take_all (k - a) (drop a l) (omega (arith, length-drop a l)) ∙ e) w

pub put_same : {text text' old out : List ℕ} {n : ℕ} → text ≡ text' → Put text old out n → Put text' old out n
put_same {old = old} {out} {n} e w = subst (λ t. Put t old out n) e w

-- nothing is put
pub put-none : (out : List ℕ) → Put [] out out 0
put-none out = record { inside = omega arith; wrote = record { count = rw (take-nil (length out)); bytes = rw (take-nil (length out)) refl } }

-- what is put is fixed: two outputs and two answers that a contract allows are the same
pub put_fixed : {text old out out' : List ℕ} {n n' : ℕ} → Put text old out n → Put text old out' n' → (out ≡ out') × (n ≡ n')
put_fixed h g = (h.wrote.bytes ∙ sym g.wrote.bytes, h.wrote.count ∙ sym g.wrote.count)
