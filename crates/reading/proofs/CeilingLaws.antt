-- What a reader with ceilings answers, from the marks and the answer of the whole format's reader.
-- Assumes nothing.
use Rattle.std.specs.Prelude.{if◌then◌else◌}
use Prim.Native.Nat.{ℕ, zero, suc, ◌+◌}
use mathlib.Core.Path.{◌≡◌, refl, sym, ap, ◌∙◌, fun_ext}
use mathlib.Core.List.{List, [], ◌∷◌, ◌++◌}
use mathlib.Core.Bool.{Bool, true, false}
use native.Mathlib.Omega.{arith}
use lib.ListN.{length, take, drop}
use lib.Dec.{leb}
use Rattle.reading.specs.Ceilings.{ceiling, too_new, under, Mark, marks, within, or_too_new, all_within, FirstAbove, Low}
use Rattle.reading.specs.Each.{each}
use Rattle.reading.specs.Reading.{Which, Reading, done, refuse, place, field, known, Answer, accepted, refused, run, ◌>>=◌, ◌>>◌, here, check, and_then}
use Rattle.reading.proofs.RunLaws.{run_bind}
use Rattle.reading.specs.declared.Limits.{Limits}

-- past a field that is there, and at one that is not
at_field : {A : Type 0} (l : Limits) (b : Bool) (ks : List Mark) (x y r : Answer A) → x ≡ or_too_new l ks y
    → (if b then x else r) ≡ or_too_new l (if b then ks else []) (if b then y else r)
at_field l true ks x y r e = e
at_field l false ks x y r e = refl

-- at a mark
at_mark : {A : Type 0} (b : Bool) (m : Reading A) (n p : ℕ) (s : List ℕ) (at : ℕ) (x : Answer A) → run m s at ≡ x
    → run (if b then m else refuse n p) s at ≡ (if b then x else refused n p)
unfolding run
at_mark true m n p s at x e = e
at_mark false m n p s at x e = refl

-- the marks after an answer
abbrev pub after : {A : Type 0} → Answer A → (A → ℕ → List Mark) → List Mark
after (accepted a p) f = f a p
after (refused n p) f = []

-- with the ceilings l a reader refuses at the first mark above them, if there is one, and else
-- answers what the whole format's does
pub ceilings : {A : Type 0} (l : Limits) (m : Reading A) (s : List ℕ) (at : ℕ) → run (under l m) s at ≡ or_too_new l (marks m s at) (run m s at)
unfolding run under marks
ceilings l (done a) s at = refl
ceilings l (refuse n p) s at = refl
ceilings l (place k) s at = ceilings l (k at) s at
ceilings l (field n w k) s at = at_field l (leb (at + w) (length s)) _ _ _ _ (ceilings l (k (take n (take w (drop at s)))) s (at + w))
ceilings l (known x v p m) s at = at_mark (leb v (ceiling l x)) (under l m) (too_new x) p s at _ (ceilings l m s at)

above-none : {A : Type 0} (b c : Bool) (x r r' : Answer A) → (c ≡ true → x ≡ r) → (if b then c else false) ≡ true → (if b then x else r') ≡ r
above-none true c x r r' e h = e h
above-none false c x r r' e h = let z : ◌≡◌ {A = ℕ} 0 1 = cc in absurd (omega arith)

none_above : {A : Type 0} (l : Limits) (ks : List Mark) (r : Answer A) → all_within l ks ≡ true → or_too_new l ks r ≡ r
none_above l [] r h = refl
none_above l (k ∷ ks) r h = above-none (within l k) (all_within l ks) _ _ _ (none_above l ks r) h

-- where none is above the ceilings they change nothing
pub unhindered : {A : Type 0} (l : Limits) (m : Reading A) (s : List ℕ) (at : ℕ) → all_within l (marks m s at) ≡ true → run (under l m) s at ≡ run m s at
unhindered l m s at h = ceilings l m s at ∙ none_above l (marks m s at) (run m s at) h

-- a reader refuses at the first mark above its ceiling
above-first : {A : Type 0} (l : Limits) (before : List Mark) (k : Mark) (later : List Mark) (r : Answer A) → all_within l before ≡ true → within l k ≡ false
    → or_too_new l (before ++ (k ∷ later)) r ≡ refused (too_new k.which) k.place
above-first l [] k later r low high = rw high
above-first l (j ∷ js) k later r low high = above-none (within l j) (all_within l js) _ _ _ (λ h. above-first l js k later r h high) low

pub first-refused : {A : Type 0} (l : Limits) (ks : List Mark) {k : Mark} (r : Answer A) → FirstAbove l ks k → or_too_new l ks r ≡ refused (too_new k.which) k.place
first-refused l ks {k} r h = ap (λ m. or_too_new l m r) h.order ∙ above-first l h.before k h.after r h.low h.high

-- where not all marks are within the ceilings, one is the first above them
first_cases : (l : Limits) (k : Mark) (ks : List Mark) (b : Bool) → within l k ≡ b → (all_within l ks ≡ false → (j : Mark) × FirstAbove l ks j)
    → (if b then all_within l ks else false) ≡ false → (j : Mark) × FirstAbove l (k ∷ ks) j
first_cases l k ks true e rest h =
    let r = rest h in
    let f = r.1 in
    (r.0, record { before = k ∷ f.before; after = f.after; order = ap (λ m. k ∷ m) f.order; low = rw e f.low; high = f.high })
first_cases l k ks false e rest h = (k, record { before = []; after = ks; order = refl; low = refl; high = e })

pub first_above : (l : Limits) (ks : List Mark) → all_within l ks ≡ false → (k : Mark) × FirstAbove l ks k
first_above l [] h = let z : ◌≡◌ {A = ℕ} 0 1 = cc in absurd (omega arith)
first_above l (k ∷ ks) h = first_cases l k ks (within l k) refl (first_above l ks) h

let_through-one : {A : Type 0} (b : Bool) (x : Answer A) (n p : ℕ) {a : A} {q : ℕ} {r : Answer A} → (accepted a q ≡ x → accepted a q ≡ r) → accepted a q ≡ (if b then x else refused n p) → accepted a q ≡ r
let_through-one true x n p f e = f e
let_through-one false x n p f e = let z : ◌≡◌ {A = ℕ} 0 1 = cc in absurd (omega arith)

-- what is accepted was let through
pub let_through : {A : Type 0} (l : Limits) (ks : List Mark) (r : Answer A) {a : A} {q : ℕ} → accepted a q ≡ or_too_new l ks r → accepted a q ≡ r
let_through l [] r e = e
let_through l (k ∷ ks) r e = let_through-one (within l k) (or_too_new l ks r) (too_new k.which) k.place (let_through l ks r) e

below_one : {A : Type 0} (b : Bool) (x : Answer A) (w o : ℕ) {n p : ℕ} {r : Answer A} → (n ≡ w → ⊥) → (refused n p ≡ x → refused n p ≡ r) → refused n p ≡ (if b then x else refused w o) → refused n p ≡ r
below_one true x w o other f e = f e
below_one false x w o {n} other f e = let i : n ≡ w = cc in absurd (other i)

-- what is refused, and not for being too new, was refused before
pub refused-below : {A : Type 0} (l : Limits) (ks : List Mark) (r : Answer A) {n p : ℕ} → ((x : Which) → n ≡ too_new x → ⊥) → refused n p ≡ or_too_new l ks r → refused n p ≡ r
refused-below l [] r other e = e
refused-below l (k ∷ ks) r other e = below_one (within l k) (or_too_new l ks r) (too_new k.which) k.place (other k.which) (refused-below l ks r other) e

-- the same from a reader with the ceilings of the whole format, where they let every mark through
pub ceilings_from : {A : Type 0} (full l : Limits) (m : Reading A) (s : List ℕ) (at : ℕ) → all_within full (marks m s at) ≡ true
    → run (under l m) s at ≡ or_too_new l (marks m s at) (run (under full m) s at)
ceilings_from full l m s at h = ceilings l m s at ∙ ap (or_too_new l (marks m s at)) (sym (unhindered full m s at h))

either-marks : {A : Type 0} (b : Bool) (ks ks' : List Mark) (x : Answer A) (n p : ℕ) (f : A → ℕ → List Mark) → ks ≡ ks' ++ after x f
    → (if b then ks else []) ≡ (if b then ks' else []) ++ after (if b then x else refused n p) f
either-marks true ks ks' x n p f e = e
either-marks false ks ks' x n p f e = refl

-- the marks of one program after another
pub marks_bind : {A B : Type 0} (m : Reading A) (f : A → Reading B) (s : List ℕ) (at : ℕ) → marks (m >>= f) s at ≡ marks m s at ++ after (run m s at) (λ a p. marks (f a) s p)
unfolding run marks ◌>>=◌
marks_bind (done a) f s at = refl
marks_bind (refuse n p) f s at = refl
marks_bind (place k) f s at = marks_bind (k at) f s at
marks_bind (field n w k) f s at = either-marks (leb (at + w) (length s)) _ _ _ 1 at _ (marks_bind (k (take n (take w (drop at s)))) f s (at + w))
marks_bind (known x v p m) f s at = ap (λ ks. record { which = x; value = v; place = p } ∷ ks) (marks_bind m f s at)

either_bind : {A B : Type 0} (b : Bool) (x : Reading B) (m : Reading A) (f : A → Reading B) (n p : ℕ) → x ≡ (m >>= f) → (if b then x else refuse n p) ≡ ((if b then m else refuse n p) >>= f)
unfolding ◌>>=◌
either_bind true x m f n p e = e
either_bind false x m f n p e = refl

-- one program after another, a repetition, and a number, with ceilings
module _ (l : Limits) where
  pub under_bind : {A B : Type 0} (m : Reading A) (f : A → Reading B) → under l (m >>= f) ≡ (under l m >>= (λ a. under l (f a)))
  unfolding under ◌>>=◌
  under_bind (done a) f = refl
  under_bind (refuse n p) f = refl
  under_bind (place k) f = ap place (fun_ext (λ p. under_bind (k p) f))
  under_bind (field n w k) f = ap (field n w) (fun_ext (λ bs. under_bind (k bs) f))
  under_bind (known x v p m) f = either_bind (leb v (ceiling l x)) _ _ _ (too_new x) p (under_bind m f)

  pub under-each : {S A : Type 0} (m : S → Reading A) (f : S → A → S) (n : ℕ) (z : S) → under l (each m f n z) ≡ each (λ y. under l (m y)) f n z
  unfolding under each
  under-each m f zero z = refl
  under-each m f (suc n) z =
      under_bind (m z) _ ∙ ap (λ g. under l (m z) >>= g) (fun_ext (λ a. under_bind (each m f n (f z a)) _ ∙ ap (λ x. x >>= (λ more. done (a ∷ more))) (under-each m f n (f z a))))

  -- one program after another, as `run_bind` has it
  pub run-under : {A B : Type 0} (m : Reading A) (f : A → Reading B) (s : List ℕ) (at : ℕ) → run (under l (m >>= f)) s at ≡ and_then (run (under l m) s at) (λ a p. run (under l (f a)) s p)
  run-under m f s at = ap (λ x. run x s at) (under_bind m f) ∙ run_bind (under l m) (λ a. under l (f a)) s at

-- a program with no mark above its ceiling is the same under the ceilings
module _ (l : Limits) where
  pub low_run : {A : Type 0} (m : Reading A) → Low l m → (s : List ℕ) (p : ℕ) → run (under l m) s p ≡ run m s p
  unfolding under Low run
  low_run (done a) h s p = refl
  low_run (refuse n o) h s p = refl
  low_run (place k) h s p = low_run (k p) (h p) s p
  low_run (field n w k) h s p =
      ap (λ r. if leb (p + w) (length s) then r else refused 1 p) (low_run (k (take n (take w (drop p s)))) (h (take n (take w (drop p s)))) s (p + w))
  low_run (known x v o m) h s p = rw h.0 (low_run m h.1 s p)

  pub low_bind : {A B : Type 0} (m : Reading A) (f : A → Reading B) → Low l m → ((a : A) → Low l (f a)) → Low l (m >>= f)
  unfolding Low ◌>>=◌
  low_bind (done a) f h g = g a
  low_bind (refuse n o) f h g = tt
  low_bind (place k) f h g = λ p. low_bind (k p) f (h p) g
  low_bind (field n w k) f h g = λ bs. low_bind (k bs) f (h bs) g
  low_bind (known x v o m) f h g = (h.0, low_bind m f h.1 g)

  pub low-done : {A : Type 0} (a : A) → Low l (done a)
  unfolding Low
  low-done a = tt

  pub low-refuse : (A : Type 0) (n o : ℕ) → Low {A = A} l (refuse n o)
  unfolding Low
  low-refuse A n o = tt

  pub low-here : Low l here
  unfolding Low here
  low-here = λ p. tt

  pub low_field : {A : Type 0} (n w : ℕ) (g : List ℕ → A) → Low l (field n w (λ bs. done (g bs)))
  unfolding Low
  low_field n w g = λ bs. tt

  pub low-mark : (x : Which) (v o : ℕ) → leb v (ceiling l x) ≡ true → Low l (known x v o (done (tt {0})))
  unfolding Low
  low-mark x v o h = (h, tt)

  pub low_if : {A : Type 0} (b : Bool) (m n : Reading A) → Low l m → Low l n → Low l (if b then m else n)
  low_if true m n h g = h
  low_if false m n h g = g

  -- after a test that held
  pub low-checked : {A : Type 0} (b : Bool) (n o : ℕ) (m : Reading A) → (b ≡ true → Low l m) → Low l (check b n o >> m)
  unfolding Low ◌>>=◌
  low-checked true n o m h = h refl
  low-checked false n o m h = tt

  pub low-each : {S A : Type 0} (m : S → Reading A) (f : S → A → S) → ((z : S) → Low l (m z)) → (n : ℕ) (z : S) → Low l (each m f n z)
  unfolding each
  low-each m f h zero z = low-done []
  low-each m f h (suc n) z = low_bind (m z) _ (h z) (λ a. low_bind (each m f n (f z a)) _ (low-each m f h n (f z a)) (λ r. low-done (a ∷ r)))
