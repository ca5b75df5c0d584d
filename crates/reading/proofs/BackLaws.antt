-- The laws of reading back: one for each constructor of a program, and one for a list. Assumes
-- nothing.
use Prim.Native.Nat.{ℕ, ◌+◌, ◌*◌, ◌≤◌}
use mathlib.Core.Path.{◌≡◌, refl, sym, ap, subst, ◌∙◌, fun_ext}
use mathlib.Core.List.{List, [], ◌∷◌, ◌++◌, map, map-id, append-nil}
use mathlib.Core.Bool.{Bool, true}
use native.Mathlib.Omega.{arith}
use native.Mathlib.Nat.{add_assoc, add-zero, suc-mul}
use lib.ListN.{length, take, drop, length-append}
use lib.Seq.{drop-drop, take-add, take-take, take_at, drop_at}
use borrow.Author.Tests.{le-leb}
use Rattle.reading.specs.Back.{Stands, same, Back, got, items_there, Along, All, bytes_of_all}
use Rattle.reading.specs.Each.{each, times}
use Rattle.reading.specs.Reading.{Which, Reading, done, field, known, Answer, accepted, refused, run, ◌>>=◌, ◌>>◌, here, check, and_then, seen}
use Rattle.reading.proofs.RunLaws.{run_bind}

-- the front, and what stands after it
pub front : {s : List ℕ} {p : ℕ} (l k : List ℕ) → Stands s p (l ++ k) → Stands s p l
front {s} {p} l k h =
    let n : length (l ++ k) ≡ length l + length k = length-append l k in
    let i : p + length (l ++ k) ≤ length s = h.inside in
    record {
      inside = omega arith;
      bytes = sym (take-take (length l) (length (l ++ k)) (drop p s) (omega arith)) ∙ ap (take (length l)) h.bytes ∙ take_at l k (length l) refl;
    }

pub after : {s : List ℕ} {p : ℕ} (l k : List ℕ) → Stands s p (l ++ k) → Stands s (p + length l) k
after {s} {p} l k h =
    let n : length (l ++ k) ≡ length l + length k = length-append l k in
    let i : p + length (l ++ k) ≤ length s = h.inside in
    let both : l ++ take (length k) (drop (length l) (drop p s)) ≡ l ++ k =
    ap (λ x. x ++ take (length k) (drop (length l) (drop p s))) (sym (front l k h).bytes) ∙ sym (take-add (length l) (length k) (drop p s)) ∙
    ap (λ x. take x (drop p s)) (sym n) ∙ h.bytes in
    record {
      inside = omega arith;
      bytes =
          ap (take (length k)) (sym (drop-drop (length l) p s)) ∙ sym (drop_at l (take (length k) (drop (length l) (drop p s))) (length l) refl) ∙
          ap (drop (length l)) both ∙ drop_at l k (length l) refl;
    }

-- at the front of a file
pub stands-first : (l r : List ℕ) → Stands (l ++ r) 0 l
stands-first l r = record { inside = omega (arith, length-append l r); bytes = take_at l r (length l) refl }

-- on from an answer of which only what view shows is known
seen-then : {A B C D : Type 0} (view : A → C) (view' : B → D) (r : Answer A) (g : A → ℕ → Answer B) {c : C} {q : ℕ} {z : Answer D} → seen view r ≡ accepted c q
    → ((a : A) → view a ≡ c → seen view' (g a q) ≡ z) → seen view' (and_then r g) ≡ z
unfolding seen and_then
seen-then view view' (accepted a p) g {c} {q} e f =
    let i : view a ≡ c = cc in
    let j : p ≡ q = cc in
    rw j (f a i)
seen-then view view' (refused n p) g e f = let w : ◌≡◌ {A = ℕ} 0 1 = cc in absurd (omega arith)

seen_other : {A C : Type 0} (view : A → C) (r : Answer A) {a : A} {q : ℕ} → seen same r ≡ accepted a q → seen view r ≡ accepted (view a) q
unfolding seen
seen_other view (accepted b p) e = cc
seen_other view (refused n p) e = let w : ◌≡◌ {A = ℕ} 0 1 = cc in absurd (omega arith)

module _ {s : List ℕ} where
  -- one part and then the next, which is given something that shows what the first part says
  pub follows : {A B C D : Type 0} {view : A → C} {view' : B → D} {m : Reading A} {f : A → Reading B} {p : ℕ} {l k : List ℕ} {c : C} {d : D}
      → Back s view m p l c → ((a : A) → view a ≡ c → Back s view' (f a) (p + length l) k d) → Back s view' (m >>= f) p (l ++ k) d
  follows {view = view} {view'} {m} {f} {p} {l} {k} {c} {d} first then = record {
    reads = λ h.
        ap (seen view') (run_bind m f s p) ∙
        seen-then view view' (run m s p) (λ a q. run (f a) s q) (first.reads (front l k h))
        (λ a e. (then a e).reads (after l k h) ∙ ap (accepted d) (add_assoc p (length l) (length k) ∙ ap (λ n. p + n) (sym (length-append l k))));
  }

  -- a last part, from which the whole is made
  pub ends : {A B C D : Type 0} {view : A → C} {view' : B → D} {m : Reading A} {p : ℕ} {l : List ℕ} {c : C} {d : D} (g : A → B)
      → Back s view m p l c → ((a : A) → view a ≡ c → view' (g a) ≡ d) → Back s view' (m >>= (λ a. done (g a))) p l d
  unfolding run seen
  ends {view = view} {view'} {m} {p} {l} {c} {d} g last made = record {
    reads = λ h.
        ap (seen view') (run_bind m (λ a. done (g a)) s p) ∙
        seen-then view view' (run m s p) (λ a q. accepted (g a) q) (last.reads h) (λ a e. ap (λ x. accepted x (p + length l)) (made a e));
  }

  -- a part of which nothing is hidden: the next part is given what it says
  pub exactly : {A B D : Type 0} {view' : B → D} {m : Reading A} {p : ℕ} {l k : List ℕ} {a : A} {d : D} (f : A → Reading B)
      → Back s same m p l a → Back s view' (f a) (p + length l) k d → Back s view' (m >>= f) p (l ++ k) d
  exactly {view' = view'} {p = p} {l} {k} {d = d} f first then =
      follows first (λ b e. subst (λ x. Back s view' (f x) (p + length l) k d) (sym e) then)

  -- the same, where nothing more is read
  pub closes : {A B D : Type 0} {view' : B → D} {m : Reading A} {p : ℕ} {l : List ℕ} {a : A} {d : D} (f : A → Reading B)
      → Back s same m p l a → Back s view' (f a) (p + length l) [] d → Back s view' (m >>= f) p l d
  closes {view' = view'} {m} {p} {l} {d = d} f first then = subst (λ x. Back s view' (m >>= f) p x d) (append-nil l) (exactly f first then)

  -- nothing to read, the place, and nothing more to read
  pub at_once : {A B D : Type 0} {view : B → D} {a : A} {p : ℕ} {l : List ℕ} {d : D} (f : A → Reading B) → Back s view (f a) p l d → Back s view (done a >>= f) p l d
  unfolding ◌>>=◌
  at_once f then = then

  pub at_place : {B D : Type 0} {view : B → D} {p : ℕ} {l : List ℕ} {d : D} (f : ℕ → Reading B) → Back s view (f p) p l d → Back s view (here >>= f) p l d
  unfolding run here ◌>>=◌
  at_place f then = record { reads = then.reads }

  pub nothing_more : {B D : Type 0} {view : B → D} {b : B} {p : ℕ} {d : D} → view b ≡ d → Back s view (done b) p [] d
  unfolding run seen
  nothing_more {p = p} {d} e = record { reads = λ h. ap (λ x. accepted x p) e ∙ rw add-zero }

  -- a mark
  pub marked : {B D : Type 0} {view : B → D} {m : Reading B} {p n q : ℕ} {x : Which} {l : List ℕ} {d : D} → Back s view m p l d → Back s view (known x n q m) p l d
  unfolding run
  marked b = record { reads = b.reads }

  pub marked-then : {A B D : Type 0} {view : B → D} {a : A} {p : ℕ} {l : List ℕ} {d : D} (x : Which) (n q : ℕ) (f : A → Reading B) → Back s view (f a) p l d → Back s view (known x n q (done a) >>= f) p l d
  unfolding run ◌>>=◌
  marked-then x n q f b = record { reads = b.reads }

  -- what is read is known, and so is what a view shows of it
  pub viewed : {A C : Type 0} {view : A → C} {m : Reading A} {p : ℕ} {l : List ℕ} {a : A} {c : C} → Back s same m p l a → view a ≡ c → Back s view m p l c
  viewed {view = view} {m} {p} {l} b e = record { reads = λ h. seen_other view (run m s p) (b.reads h) ∙ ap (λ x. accepted x (p + length l)) e }

  -- what stands there, for a view that looks at it
  pub looking : {B D : Type 0} {view : B → D} {m : Reading B} {p : ℕ} {l : List ℕ} {d : D} → (Stands s p l → Back s view m p l d) → Back s view m p l d
  looking f = record { reads = λ h. (f h).reads h }

  -- a test that holds
  pub checked : {B D : Type 0} {view : B → D} {p : ℕ} {l : List ℕ} {d : D} {b : Bool} (n o : ℕ) {m : Reading B} → b ≡ true → Back s view m p l d → Back s view (check b n o >> m) p l d
  checked {view = view} {p} {l} {d} {b} n o {m} e h = subst (λ t. Back s view (check t n o >> m) p l d) (sym e) (at_once _ h)

  -- a field, and what is made of its first bytes
  pub looked-at : {B D : Type 0} {view : B → D} {n w p : ℕ} {l : List ℕ} {d : D} (g : List ℕ → B) → w ≡ length l → view (g (take n l)) ≡ d → Back s view (field n w (λ bs. done (g bs))) p l d
  unfolding run seen
  looked-at {n = n} {w} {p} {l} {d} g e made = record {
    reads = λ h.
        let i : p + length l ≤ length s = h.inside in
        rw (e, le-leb (p + length l) (length s) i, h.bytes, made);
  }

  -- a repetition: one item after the other, each given the state that those before it made
  pub each_back : {S A C : Type 0} {view : A → C} {m : S → Reading A} {f : S → A → S} {g : S → C → S} {enc : C → List ℕ} {P : S → C → Type 0}
      → ((z : S) (a : A) (c : C) → view a ≡ c → f z a ≡ g z c) → ((z : S) (c : C) → P z c → (p : ℕ) → Back s view (m z) p (enc c) c)
      → (cs : List C) (z : S) → Along P g z cs → (p : ℕ) → Back s (map view) (each m f (length cs) z) p (bytes_of_all enc cs) cs
  unfolding each bytes_of_all
  each_back step one [] z fits p = nothing_more refl
  each_back {view = view} {m} {f} {g} {enc} step one (c ∷ cs) z fits p =
      follows (one z c fits.0 p) (λ a e. ends _ (subst (λ y. Back s (map view) (each m f (length cs) y) (p + length (enc c)) (bytes_of_all enc cs) cs) (sym (step z a c e)) (each_back step one cs (g z c) fits.1 _)) (λ r e'. cc))

  -- a list: one item after the other
  pub list_back : {A C : Type 0} {view : A → C} {m : Reading A} {enc : C → List ℕ} {P : C → Type 0}
      → ((c : C) → P c → (p : ℕ) → Back s view m p (enc c) c)
      → (cs : List C) → All P cs → (p : ℕ) → Back s (map view) (times (length cs) m) p (bytes_of_all enc cs) cs
  list_back {P = P} one cs fits p = each_back {P = λ z. P} (λ z a c e. refl) (λ z. one) cs tt fits p

  -- a list of items of which nothing is hidden
  pub exact-list : {A : Type 0} {m : Reading (List A)} {p : ℕ} {l : List ℕ} {cs : List A} → Back s (map same) m p l cs → Back s same m p l cs
  exact-list {m = m} {p} {l} {cs} b = subst (λ v. Back s v m p l cs) (fun_ext map-id) b

  -- what stands at a place is what a view finds that reads it again
  pub items_at : {A C : Type 0} {view : A → C} {p : ℕ} {l : List ℕ} {cs : List C} (m : Reading A) (n : ℕ) → Back s (map view) (times n m) p l cs → Stands s p l → items_there view m n s p ≡ cs
  unfolding items_there
  items_at m n b h = ap got (b.reads h)

-- rows of one length
pub rows-length : {C : Type 0} (enc : C → List ℕ) {w : ℕ} → ((c : C) → length (enc c) ≡ w) → (cs : List C) → length (bytes_of_all enc cs) ≡ length cs * w
unfolding bytes_of_all
rows-length enc each [] = omega arith
rows-length enc {w} each (c ∷ cs) = length-append (enc c) (bytes_of_all enc cs) ∙ rw (each c, rows-length enc each cs, suc-mul) (omega arith)

seen_cases : {A C : Type 0} {view : A → C} {c : C} {q : ℕ} (r : Answer A) → seen view r ≡ accepted c q → (a : A) × (r ≡ accepted a q) × (view a ≡ c)
unfolding seen
seen_cases {view = view} {c} {q} (accepted a p) e =
    let j : p ≡ q = cc in
    let i : view a ≡ c = cc in
    (a, ap (accepted a) j, i)
seen_cases (refused n p) e = let w : ◌≡◌ {A = ℕ} 0 1 = cc in absurd (omega arith)

-- the same in parts: what the program reads, and that view shows it as c
pub shown : {A C : Type 0} {s : List ℕ} {view : A → C} {m : Reading A} {p : ℕ} {l : List ℕ} {c : C} → Back s view m p l c → Stands s p l
    → (a : A) × (run m s p ≡ accepted a (p + length l)) × (view a ≡ c)
shown {s = s} {m = m} {p} b h = seen_cases (run m s p) (b.reads h)

-- what a view shows of what was read, as a further view shows it
pub then-shown : {A C D : Type 0} {s : List ℕ} {view : A → C} {m : Reading A} {p : ℕ} {l : List ℕ} {c : C} (g : C → D) → Back s view m p l c → Back s (λ a. g (view a)) m p l (g c)
unfolding seen
then-shown g b = record { reads = λ h. let r = shown b h in rw (r.1, r.2) }
