-- A program whose bytes come in pieces: the pieces give what the whole gives, and no more is kept
-- than is looked at. Assumes nothing.
use Rattle.std.specs.Prelude.{if◌then◌else◌}
use Prim.Native.Nat.{ℕ, zero, suc, ◌+◌, ◌-◌, ◌≤◌, ◌<◌}
use mathlib.Core.Path.{◌≡◌, refl, sym, ap, ◌∙◌}
use mathlib.Core.List.{List, [], ◌∷◌, ◌++◌, append_assoc, append-nil}
use mathlib.Core.Bool.{Bool, true, false}
use native.Mathlib.Omega.{arith}
use native.Mathlib.Nat.{zero-add, sub-zero, add_assoc}
use lib.ListN.{length, take, drop, length-append, length-drop, length-take}
use lib.Seq.{drop-drop, take-append-le, take-append-add, drop-append-le, drop-append-add}
use lib.Dec.{leb}
use borrow.Author.Tests.{leb-true, leb-false, le-leb, lt-leb}
use Rattle.reading.specs.Pieces.{Stage, over, wants, feed, more, finish, mores, joined}
use Rattle.reading.specs.Reading.{Reading, done, refuse, place, field, known, Answer, refused, run}

-- what is kept of what was kept
take-kept : (l : ℕ) (xs ys : List ℕ) → take l (take l xs ++ ys) ≡ take l (xs ++ ys)
take-kept zero xs ys = refl
take-kept (suc l) [] ys = refl
take-kept (suc l) (x ∷ xs) ys = ap (λ r. x ∷ r) (take-kept l xs ys)

-- a field of which n bytes came before xs
field-append : {A : Type 0} (k : List ℕ → Reading A) (at l w n : ℕ) (kept xs ys : List ℕ) (b : Bool) → leb w (n + length xs) ≡ b
    → feed (k (take l (kept ++ take (w - n) xs))) (at + w) (drop (w - n) xs ++ ys) ≡ more (feed (k (take l (kept ++ take (w - n) xs))) (at + w) (drop (w - n) xs)) ys
    → more (wants k at l w kept n) (xs ++ ys) ≡ more (if b then (feed (k (take l (kept ++ take (w - n) xs))) (at + w) (drop (w - n) xs)) else (wants k at l w (take l (kept ++ xs)) (n + length xs))) ys
unfolding more
field-append k at l w n kept xs ys true e ih =
    let i : w ≤ n + length xs = leb-true _ _ e in
    rw (le-leb w (n + length (xs ++ ys)) (rw length-append (omega arith)), take-append-le (w - n) xs ys (omega arith), drop-append-le (w - n) xs ys (omega arith)) ih
field-append k at l w n kept xs ys false e ih =
    let i : n + length xs < w = leb-false _ _ e in
    let j : w - n ≡ length xs + (w - (n + length xs)) = omega arith in
    rw (length-append xs ys, j, take-append-add xs ys (w - (n + length xs)), drop-append-add xs ys (w - (n + length xs)), ← add_assoc n (length xs) (length ys), ← append_assoc kept xs ys, ← append_assoc kept xs (take (w - (n + length xs)) ys), take-kept l (kept ++ xs) ys, take-kept l (kept ++ xs) (take (w - (n + length xs)) ys))

-- two pieces are as one
pub feed-append : {A : Type 0} (m : Reading A) (at : ℕ) (xs ys : List ℕ) → feed m at (xs ++ ys) ≡ more (feed m at xs) ys
unfolding feed more
feed-append (done a) at xs ys = refl
feed-append (refuse n p) at xs ys = refl
feed-append (place k) at xs ys = feed-append (k at) at xs ys
feed-append (field l w k) at xs ys =
    simp (zero-add, sub-zero) at (field-append k at l w 0 [] xs ys (leb w (0 + length xs)) refl (feed-append (k (take l (take (w - 0) xs))) (at + w) (drop (w - 0) xs) ys))
feed-append (known x v p m) at xs ys = feed-append m at xs ys

pub more-append : {A : Type 0} (g : Stage A) (xs ys : List ℕ) → more (more g xs) ys ≡ more g (xs ++ ys)
unfolding more
more-append (over r) xs ys = refl
more-append (wants k at l w kept n) xs ys =
    sym (field-append k at l w n kept xs ys (leb w (n + length xs)) refl (feed-append (k (take l (kept ++ take (w - n) xs))) (at + w) (drop (w - n) xs) ys))

finish-next : {A : Type 0} (x y : Stage A) (r : Answer A) (s : List ℕ) (at w : ℕ) (b : Bool) → leb (at + w) (length s) ≡ b → at ≤ length s
    → (at + w ≤ length s → finish x ≡ r) → finish y ≡ refused 1 at
    → finish (if leb w (length (drop at s)) then x else y) ≡ (if b then r else refused 1 at)
finish-next x y r s at w true e h ih missing =
    let i : at + w ≤ length s = leb-true _ _ e in
    rw (le-leb w (length (drop at s)) (rw length-drop (omega arith))) (ih i)
finish-next x y r s at w false e h ih missing =
    let i : length s < at + w = leb-false _ _ e in
    rw (lt-leb w (length (drop at s)) (rw length-drop (omega arith))) missing

-- what the pieces give at the end is what the program gives on the whole
pub feed-run : {A : Type 0} (m : Reading A) (s : List ℕ) (at : ℕ) → at ≤ length s → finish (feed m at (drop at s)) ≡ run m s at
unfolding feed run finish
feed-run (done a) s at h = refl
feed-run (refuse n p) s at h = refl
feed-run (place k) s at h = feed-run (k at) s at h
feed-run (field l w k) s at h =
    finish-next _ _ _ s at w (leb (at + w) (length s)) refl h
    (λ i. rw drop-drop (feed-run (k (take l (take w (drop at s)))) s (at + w) i)) refl
feed-run (known x v p m) s at h = feed-run m s at h

-- so what it gives from a place on hangs on the bytes from there on
pub from_there : {A : Type 0} (m : Reading A) (s t : List ℕ) (at : ℕ) → at ≤ length s → at ≤ length t → drop at s ≡ drop at t → run m s at ≡ run m t at
from_there m s t at h i e = sym (feed-run m s at h) ∙ ap (λ bs. finish (feed m at bs)) e ∙ feed-run m t at i

pub mores-joined : {A : Type 0} (m : Reading A) (at : ℕ) (xs : List ℕ) (ps : List (List ℕ)) → mores (feed m at xs) ps ≡ feed m at (xs ++ joined ps)
unfolding mores joined
mores-joined m at xs [] = ap (feed m at) (sym (append-nil xs))
mores-joined m at xs (bs ∷ rest) =
    ap (λ g. mores g rest) (sym (feed-append m at xs bs)) ∙ mores-joined m at (xs ++ bs) rest ∙ ap (feed m at) (append_assoc xs bs (joined rest))

-- pieces of any lengths: the answer is the whole reader's on the joined bytes
pub pieces : {A : Type 0} (m : Reading A) (ps : List (List ℕ)) → finish (mores (feed m 0 []) ps) ≡ run m (joined ps) 0
pieces m ps = ap finish (mores-joined m 0 [] ps) ∙ feed-run m (joined ps) 0 (omega arith)

-- at most the bytes that are looked at are kept
abbrev pub small : {A : Type 0} → Stage A → Bool
small (over r) = true
small (wants k at l w kept n) = leb (length kept) l

take-small : (l : ℕ) (bs : List ℕ) → leb (length (take l bs)) l ≡ true
take-small l bs = le-leb (length (take l bs)) l (rw length-take (omega arith))

either-small : {A : Type 0} (b : Bool) (x y : Stage A) → small x ≡ true → small y ≡ true → small (if b then x else y) ≡ true
either-small true x y e f = e
either-small false x y e f = f

pub feed-small : {A : Type 0} (m : Reading A) (at : ℕ) (bs : List ℕ) → small (feed m at bs) ≡ true
unfolding feed
feed-small (done a) at bs = refl
feed-small (refuse n p) at bs = refl
feed-small (place k) at bs = feed-small (k at) at bs
feed-small (field l w k) at bs = either-small (leb w (length bs)) _ _ (feed-small (k (take l (take w bs))) (at + w) (drop w bs)) (take-small l bs)
feed-small (known x v p m) at bs = feed-small m at bs

pub more-small : {A : Type 0} (g : Stage A) (bs : List ℕ) → small (more g bs) ≡ true
unfolding more
more-small (over r) bs = refl
more-small (wants k at l w kept n) bs =
    either-small (leb w (n + length bs)) _ _ (feed-small (k (take l (kept ++ take (w - n) bs))) (at + w) (drop (w - n) bs)) (take-small l (kept ++ bs))
