-- The laws of `run`, proved once for every program: one program after another, bytes that follow,
-- and how far a program reads. Assumes nothing.
use Rattle.std.specs.Prelude.{if◌then◌else◌}
use Prim.Native.Nat.{ℕ, ◌+◌, ◌≤◌, ◌<◌, max}
use mathlib.Core.Path.{◌≡◌, refl, sym, ap, subst, ◌∙◌}
use mathlib.Core.List.{List, ◌++◌}
use mathlib.Core.Bool.{Bool, true, false}
use native.Mathlib.Omega.{arith}
use lib.ListN.{length, take, drop, length-append, length-drop}
use lib.Seq.{take-take, take-append-le, drop-append-le}
use lib.Dec.{T, leb}
use borrow.Author.Tests.{leb-true, le-leb, lt-leb, ne_eqb}
use Rattle.reading.specs.Reading.{Reading, done, refuse, place, field, known, Answer, accepted, refused, run, ◌>>=◌, ◌>>◌, check, next, skip, and_then, seen, final, is_accepted}

-- a field that is wholly looked at, and one that nothing looks at
pub run-next : {A : Type 0} (w : ℕ) (k : List ℕ → Reading A) (s : List ℕ) (at : ℕ) → run (next w k) s at ≡ (if leb (at + w) (length s) then run (k (take w (drop at s))) s (at + w) else refused 1 at)
unfolding run
run-next w k s at = rw (take-take w w (drop at s) (omega arith))

pub run-skip : {A : Type 0} (w : ℕ) (m : Reading A) (s : List ℕ) (at : ℕ) → run (skip w m) s at ≡ (if leb (at + w) (length s) then run m s (at + w) else refused 1 at)
unfolding run
run-skip w m s at = refl

-- a field that is wholly there, and one that is not
pub field-there : {A : Type 0} (l w : ℕ) (k : List ℕ → Reading A) (s : List ℕ) (at : ℕ) → at + w ≤ length s → run (field l w k) s at ≡ run (k (take l (take w (drop at s)))) s (at + w)
unfolding run
field-there l w k s at h = rw (le-leb (at + w) (length s) h)

pub field-missing : {A : Type 0} (l w : ℕ) (k : List ℕ → Reading A) (s : List ℕ) (at : ℕ) → length s < at + w → run (field l w k) s at ≡ refused 1 at
unfolding run
field-missing l w k s at h = rw (lt-leb (at + w) (length s) h)

if_then : {A B : Type 0} (b : Bool) (x : Answer B) (y : Answer A) (f : A → ℕ → Answer B) (n p : ℕ) → x ≡ and_then y f → (if b then x else refused n p) ≡ and_then (if b then y else refused n p) f
unfolding and_then
if_then true x y f n p e = e
if_then false x y f n p e = refl

-- one program after another
pub run_bind : {A B : Type 0} (m : Reading A) (f : A → Reading B) (s : List ℕ) (at : ℕ) → run (m >>= f) s at ≡ and_then (run m s at) (λ a p. run (f a) s p)
unfolding run ◌>>=◌ and_then
run_bind (done a) f s at = refl
run_bind (refuse n p) f s at = refl
run_bind (place k) f s at = run_bind (k at) f s at
run_bind (field l w k) f s at =
    if_then (leb (at + w) (length s)) _ _ _ 1 at (run_bind (k (take l (take w (drop at s)))) f s (at + w))
run_bind (known x v p m) f s at = run_bind m f s at

-- a field that is inside is as it was
pub field-stays : (s t : List ℕ) (at w : ℕ) → at + w ≤ length s → take w (drop at (s ++ t)) ≡ take w (drop at s)
field-stays s t at w h =
    rw (drop-append-le at s t (omega arith), take-append-le w (drop at s) t (rw length-drop (omega arith)))

stable-next : {A : Type 0} (k : List ℕ → ℕ → List ℕ → Answer A) (s t : List ℕ) (at w : ℕ) (b : Bool) → leb (at + w) (length s) ≡ b
    → (T (final (k (take w (drop at s)) (at + w) s)) → k (take w (drop at s)) (at + w) (s ++ t) ≡ k (take w (drop at s)) (at + w) s)
    → T (final (if b then k (take w (drop at s)) (at + w) s else refused 1 at))
    → (if (leb (at + w) (length (s ++ t))) then (k (take w (drop at (s ++ t))) (at + w) (s ++ t)) else refused 1 at) ≡ (if b then k (take w (drop at s)) (at + w) s else refused 1 at)
stable-next k s t at w true e ih h =
    let i : at + w ≤ length s = leb-true _ _ e in
    rw (le-leb (at + w) (length (s ++ t)) (rw length-append (omega arith)), field-stays s t at w i) (ih h)
stable-next k s t at w false e ih h = absurd h

-- an answer other than refusal 1 stays, whatever bytes follow
pub stable : {A : Type 0} (m : Reading A) (s t : List ℕ) (at : ℕ) → T (final (run m s at)) → run m (s ++ t) at ≡ run m s at
unfolding run
stable (done a) s t at h = refl
stable (refuse n p) s t at h = refl
stable (place k) s t at h = stable (k at) s t at h
stable (field l w k) s t at h =
    stable-next (λ bs p r. run (k (take l bs)) r p) s t at w (leb (at + w) (length s)) refl (stable (k (take l (take w (drop at s)))) s t (at + w)) h
stable (known x v p m) s t at h = stable m s t at h

-- what is shown of an answer stays exactly where the answer does
final-seen : {A C : Type 0} (view : A → C) (r : Answer A) → final (seen view r) ≡ final r
unfolding seen
final-seen view (accepted a q) = refl
final-seen view (refused n p) = refl

-- and is accepted exactly where the answer is
pub accepted-seen : {A C : Type 0} (view : A → C) (r : Answer A) → is_accepted (seen view r) ≡ is_accepted r
unfolding seen
accepted-seen view (accepted a q) = refl
accepted-seen view (refused n p) = refl

pub final-run : {A C : Type 0} (view : A → C) (r : Answer A) → T (final (seen view r)) → T (final r)
final-run view r h = subst T (final-seen view r) h

-- a refusal with any other number is one that stays
pub other_than-1 : {A : Type 0} (r : Answer A) {n p : ℕ} → refused n p ≡ r → (n ≡ 1 → ⊥) → T (final r)
other_than-1 r {n} e h = subst (λ x. T (final x)) e (rw (ne_eqb n 1 h) tt)

-- what is refused is not accepted
pub not_there : {A : Type 0} {r : Answer A} {n p : ℕ} → r ≡ refused n p → is_accepted r ≡ true → ⊥
not_there e h =
    let f : false ≡ true = sym (ap is_accepted e) ∙ h in
    let z : ◌≡◌ {A = ℕ} 0 1 = cc in
    omega arith

-- the two ways on from a first program, as its caller has them
pub goes_on : {A B : Type 0} (m : Reading A) (f : A → Reading B) (s : List ℕ) (at : ℕ) {a : A} {q : ℕ} → accepted a q ≡ run m s at → run (m >>= f) s at ≡ run (f a) s q
unfolding and_then
goes_on m f s at e = run_bind m f s at ∙ ap (λ r. and_then r (λ a p. run (f a) s p)) (sym e)

pub stops : {A B : Type 0} (m : Reading A) (f : A → Reading B) (s : List ℕ) (at : ℕ) {n p : ℕ} → refused n p ≡ run m s at → run (m >>= f) s at ≡ refused n p
unfolding and_then
stops m f s at e = run_bind m f s at ∙ ap (λ r. and_then r (λ a p. run (f a) s p)) (sym e)

-- the two ways on from a test: what follows it, or its refusal
pub test-holds : {A : Type 0} {b : Bool} (n o : ℕ) (m : Reading A) (s : List ℕ) (p : ℕ) → b ≡ true → run (check b n o >> m) s p ≡ run m s p
unfolding run ◌>>=◌
test-holds n o m s p e = rw e refl

pub test_fails : {A : Type 0} {b : Bool} (n o : ℕ) (m : Reading A) (s : List ℕ) (p : ℕ) → b ≡ false → run (check b n o >> m) s p ≡ refused n o
unfolding run ◌>>=◌
test_fails n o m s p e = rw e refl

inside-next : {A : Type 0} (r : Answer A) (s : List ℕ) (at w : ℕ) (a : A) (q : ℕ) (b : Bool) → leb (at + w) (length s) ≡ b
    → (accepted a q ≡ r → q ≤ max (at + w) (length s)) → accepted a q ≡ (if b then r else refused 1 at) → q ≤ max at (length s)
inside-next r s at w a q true h ih e =
    let i : at + w ≤ length s = leb-true _ _ h in
    let j : q ≤ max (at + w) (length s) = ih e in
    omega arith
inside-next r s at w a q false h ih e = let z : ◌≡◌ {A = ℕ} 0 1 = cc in omega arith

-- the place after what was read is within the bytes, where the place before it was
pub inside : {A : Type 0} (m : Reading A) (s : List ℕ) (at : ℕ) {a : A} {q : ℕ} → accepted a q ≡ run m s at → q ≤ max at (length s)
unfolding run
inside (done b) s at {a} {q} e = let k : q ≡ at = cc in omega arith
inside (refuse n p) s at {a} {q} e = let z : ◌≡◌ {A = ℕ} 0 1 = cc in omega arith
inside (place k) s at e = inside (k at) s at e
inside (field l w k) s at {a} {q} e =
    inside-next _ s at w a q (leb (at + w) (length s)) refl (inside (k (take l (take w (drop at s)))) s (at + w)) e
inside (known x v p m) s at e = inside m s at e

-- from an accepted whole back to its parts
bind_parts : {A B : Type 0} (m : Reading A) (f : A → Reading B) (s : List ℕ) (at : ℕ) {b : B} {q : ℕ} (r : Answer A) → r ≡ run m s at
    → accepted b q ≡ and_then r (λ a p. run (f a) s p) → (a : A) × (p : ℕ) × (accepted a p ≡ run m s at) × (accepted b q ≡ run (f a) s p)
unfolding and_then
bind_parts m f s at (accepted a p) e h = (a, p, e, h)
bind_parts m f s at (refused n p) e h = let z : ◌≡◌ {A = ℕ} 0 1 = cc in absurd (omega arith)

pub bind_inv : {A B : Type 0} (m : Reading A) (f : A → Reading B) (s : List ℕ) (at : ℕ) {b : B} {q : ℕ} → accepted b q ≡ run (m >>= f) s at
    → (a : A) × (p : ℕ) × (accepted a p ≡ run m s at) × (accepted b q ≡ run (f a) s p)
bind_inv m f s at e = bind_parts m f s at (run m s at) refl (e ∙ run_bind m f s at)
