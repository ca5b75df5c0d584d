-- A chain of writers: each lends the rest of its output, from the middle, to the next. Assumes
-- nothing.
use Prim.Native.Nat.{ℕ, ◌+◌, ◌-◌}
use mathlib.Core.Path.{◌≡◌, ap, ◌∙◌}
use mathlib.Core.List.{List, ◌++◌, append_assoc, append-nil}
use native.Mathlib.Omega.{arith}
use lib.ListN.{length, take, drop, length-append, length-drop, drop_of_length-le}
use lib.Seq.{drop-drop, drop-append_seam, take-append_seam, take_all}
use borrow.Rule.Slice.PartMut.{mid_of, put_mid}
use Rattle.fields.specs.Bytes.{Wrote}

-- what is lent by `&mut out[a..]`
pub lent : (a : ℕ) (xs : List ℕ) → mid_of a (length xs - a) xs ≡ drop a xs
lent a xs = take_all (length xs - a) (drop a xs) (omega (arith, length-drop a xs))

-- what out is when that is back
pub back : (a : ℕ) (xs ys : List ℕ) → put_mid a (length xs - a) xs ys ≡ take a xs ++ ys
back a xs ys =
    ap (λ l. take a xs ++ (ys ++ l)) (drop_of_length-le (drop a xs) {i = length xs - a} (omega (arith, length-drop a xs))) ∙ rw append-nil

-- a writer wrote l, and lent the rest of its output to one that wrote e: it wrote l and e
pub chain : {l e o out ys : List ℕ} {a n : ℕ} → Wrote l o out a → Wrote e (mid_of a (length out - a) out) ys n
    → Wrote (l ++ e) o (put_mid a (length out - a) out ys) (a + n)
chain {l} {e} {o} {out} {ys} {a} h j = record {
  count = rw (h.count, j.count, length-append l e);
  bytes =
      back a out ys
      ∙ ap (λ y. take a out ++ y) (j.bytes ∙ ap (λ y. e ++ drop (length e) y) (lent a out))
      ∙ rw (h.bytes, h.count, take-append_seam, drop-append_seam, drop-drop (length e) (length l) o, length-append l e, append_assoc l e);
}
