-- What an accepted sheet is: entries and tensors, each list as a repetition reads it, up to the
-- sheet's end, with ascending keys. As many turns as there are bytes are enough, since every entry
-- takes some. Assumes nothing.
use Rattle.std.specs.Prelude.{if◌then◌else◌}
use Prim.Native.Nat.{ℕ, zero, suc, ◌+◌, ◌≤◌, ◌<◌}
use mathlib.Core.Path.{◌≡◌, refl, sym, ap, subst, ◌∙◌}
use mathlib.Core.List.{List, [], ◌∷◌, map}
use mathlib.Core.Bool.{Bool, true, false}
use native.Mathlib.Omega.{arith}
use lib.Dec.{eqb}
use lib.ListN.{get_or-eq_default, length, get_or}
use borrow.Author.Tests.{ltb-false, le-ltb, eqb-true}
use Rattle.reading.specs.Back.{Along, Sure}
use Rattle.reading.specs.Each.{each, times}
use Rattle.fields.specs.Order.{before}
use Rattle.reading.specs.Reading.{Reading, Answer, accepted, refused, run, and_then}
use Rattle.reading.proofs.RunLaws.{goes_on, inside, bind_inv}
use Rattle.reading.proofs.SureLaws.{sure_then, sure_done, sure_check, sure_each, sure_run, sure_so, whatever}
use Rattle.sheet.specs.Format.{SheetEntry, metadata, SheetTensor, tensor}
use Rattle.sheet.specs.Sheet.{consed, as_many_as, Last, no_key, last_key, follows, next, key_of, is_metadata, goes_on_with, entries_from, tensors_from, Records, sheet_of}
use Rattle.sheet.proofs.PartsFound.{entry-ends, tensor-ends}

-- from an accepted answer back to what it was made of
and_inv : {A B : Type 0} (r : Answer A) (f : A → ℕ → Answer B) {b : B} {e : ℕ} → accepted b e ≡ and_then r f → (a : A) × (q : ℕ) × (accepted a q ≡ r) × (accepted b e ≡ f a q)
unfolding and_then
and_inv (accepted a q) f h = (a, q, refl, h)
and_inv (refused n p) f h = let z : ◌≡◌ {A = ℕ} 0 1 = cc in absurd (omega arith)

-- a list of one more: that one, and those after it
record Longer {A : Type 0} (r : Answer A) (others : A → ℕ → Answer (List A)) (l : List A) (e : ℕ) : Type 0 where
  head : A
  after : ℕ
  tail : List A
  first : accepted head after ≡ r
  rest : accepted tail e ≡ others head after
  made : l ≡ head ∷ tail

longer : {A : Type 0} (r : Answer A) (p : ℕ) (others : A → ℕ → Answer (List A)) {l : List A} {e : ℕ} → accepted l e ≡ consed r p others → Longer r others l e
longer (accepted a q) p others {l} {e} h =
    let i = and_inv (others a q) (λ t o. accepted (a ∷ t) o) h in
    let j : accepted l e ≡ accepted (a ∷ i.0) i.1 = i.3 in
    let m : l ≡ a ∷ i.0 = cc in
    let o : e ≡ i.1 = cc in
    record { head = a; after = q; tail = i.0; first = refl; rest = ap (accepted i.0) o ∙ i.2; made = m }
longer (refused n o) p others h = let z : ◌≡◌ {A = ℕ} 0 1 = cc in absurd (omega arith)

consed-same : {A : Type 0} (r : Answer A) (p : ℕ) (g h : A → ℕ → Answer (List A)) → ((a : A) (q : ℕ) → accepted a q ≡ r → g a q ≡ h a q) → consed r p g ≡ consed r p h
consed-same (accepted a q) p g h same = ap (λ r. and_then r (λ l e. accepted (a ∷ l) e)) (same a q refl)
consed-same (refused n o) p g h same = refl

module _ {S A : Type 0} (more : List ℕ → ℕ → Bool) (m : S → Reading A) (f : S → A → S) (s : List ℕ) where
  -- what was read, as many times as it was
  pub many_each : (turns : ℕ) (z : S) (p : ℕ) (l : List A) (e : ℕ) → accepted l e ≡ as_many_as more m f turns z s p → accepted l e ≡ run (each m f (length l) z) s p
  unfolding as_many_as each run
  many_each zero z p l e h =
      let i : l ≡ [] = cc in
      let j : e ≡ p = cc in
      rw (i, j)
  many_each (suc turns) z p l e h = by (more s p) h (λ a q t. many_each turns (f z a) q t e)
    where
      by : (b : Bool) → accepted l e ≡ (if b then consed (run (m z) s p) p (λ a q. as_many_as more m f turns (f z a) s q) else accepted [] p)
          → ((a : A) (q : ℕ) (t : List A) → accepted t e ≡ as_many_as more m f turns (f z a) s q → accepted t e ≡ run (each m f (length t) (f z a)) s q)
          → accepted l e ≡ run (each m f (length l) z) s p
      by true g ih =
          let c = longer (run (m z) s p) p (λ a q. as_many_as more m f turns (f z a) s q) g in
          let i = ih c.head c.after c.tail c.rest in
          subst (λ t. accepted t e ≡ run (each m f (length t) z) s p) (sym c.made)
          (sym (goes_on (m z) _ s p c.first ∙ goes_on (each m f (length c.tail) (f z c.head)) _ s c.after i))
      by false g ih =
          let i : l ≡ [] = cc in
          let j : e ≡ p = cc in
          rw (i, j)

  -- where each goes on, and nothing more follows past the end, as many turns as bytes are left end
  -- only where nothing more follows
  pub many_all : ((p : ℕ) → length s ≤ p → more s p ≡ false) → ((z : S) (p : ℕ) → Sure s (m z) p (λ a q. p < q))
      → (turns : ℕ) (z : S) (p : ℕ) → length s ≤ p + turns → (l : List A) (e : ℕ) → accepted l e ≡ as_many_as more m f turns z s p → more s e ≡ false
  unfolding as_many_as
  many_all past on zero z p enough l e h =
      let j : e ≡ p = cc in
      rw j (past p (omega arith))
  many_all past on (suc turns) z p enough l e h = by (more s p) refl h (λ a q. many_all past on turns (f z a) q)
    where
      by : (b : Bool) → more s p ≡ b → accepted l e ≡ (if b then consed (run (m z) s p) p (λ a q. as_many_as more m f turns (f z a) s q) else accepted [] p)
          → ((a : A) (q : ℕ) → length s ≤ q + turns → (t : List A) (o : ℕ) → accepted t o ≡ as_many_as more m f turns (f z a) s q → more s o ≡ false) → more s e ≡ false
      by true t g ih =
          let c = longer (run (m z) s p) p (λ a q. as_many_as more m f turns (f z a) s q) g in
          let i : p < c.after = (on z p).holds c.head c.after c.first in
          ih c.head c.after (omega arith) c.tail e c.rest
      by false t g ih =
          let j : e ≡ p = cc in
          rw j t

  -- so it is no matter how many turns there are, as long as they are enough: accepted or refused,
  -- the answer is the same
  pub many_enough : ((p : ℕ) → length s ≤ p → more s p ≡ false) → ((z : S) (p : ℕ) → Sure s (m z) p (λ a q. p < q))
      → (t u : ℕ) (z : S) (p : ℕ) → length s ≤ p + t → length s ≤ p + u → as_many_as more m f t z s p ≡ as_many_as more m f u z s p
  unfolding as_many_as
  many_enough past on zero zero z p i j = refl
  many_enough past on zero (suc u) z p i j = rw (past p (omega arith))
  many_enough past on (suc t) zero z p i j = rw (past p (omega arith))
  many_enough past on (suc t) (suc u) z p i j =
      ap (λ r. if more s p then r else accepted [] p) (consed-same (run (m z) s p) p _ _ (λ a q h.
      let k : p < q = (on z p).holds a q h in
      many_enough past on t u (f z a) q (omega arith) (omega arith)))

-- a repetition, where each is read without the state too
each_free : {S A : Type 0} (m : S → Reading A) (f : S → A → S) (n : Reading A) (s : List ℕ) → ((z : S) (p : ℕ) → Sure s (m z) p (λ a q. accepted a q ≡ run n s p))
    → (k : ℕ) (z : S) (p : ℕ) (l : List A) (q : ℕ) → accepted l q ≡ run (each m f k z) s p → accepted l q ≡ run (times k n) s p
unfolding each
each_free m f n s free zero z p l q e = e
each_free m f n s free (suc k) z p l q e =
    let i = bind_inv (m z) _ s p e in
    let j = bind_inv (each m f k (f z i.0)) _ s i.1 i.3 in
    j.3 ∙ sym (goes_on n _ s p ((free z p).holds i.0 i.1 i.2) ∙ goes_on (times k n) _ s i.1 (each_free m f n s free k (f z i.0) i.1 j.0 j.1 j.2))

-- an entry after a key
sure_next : (s : List ℕ) (last : Last) (p : ℕ) → Sure s (next last) p (λ e q. (accepted e q ≡ run metadata s p) × (follows last e.content.key ≡ true))
unfolding next
sure_next s last p = sure_then (sure_run whatever) (λ e q h. sure_check (follows last e.content.key) 31 0 _ (λ i. sure_done (h.1, i)))

-- each goes on
pub next-on : (s : List ℕ) (last : Last) (p : ℕ) → Sure s (next last) p (λ e q. p < q)
next-on s last p = sure_so (sure_next s last p) (λ e q h. (entry-ends s p h.0).0)

pub tensor-on : (s : List ℕ) (p : ℕ) → Sure s tensor p (λ t q. p < q)
tensor-on s p = record { holds = λ t q h. (tensor-ends s p h).0 }

-- past the end there is no tag, and nothing goes on
pub no_tag : (s : List ℕ) (p : ℕ) → length s ≤ p → is_metadata s p ≡ false
no_tag s p h =
    let past : length s ≤ p + 4 = omega arith in
    rw (get_or-eq_default s 0 past)

pub no_more : (s : List ℕ) (p : ℕ) → length s ≤ p → goes_on_with s p ≡ false
no_more s p h = le-ltb p (length s) h

-- a sheet: its version, its entries and its tensors
pub record SheetTold (s : List ℕ) (c : Records) (e : ℕ) : Type 0 where
  pub version : get_or s 0 0 ≡ 1
  pub entries : accepted c.entries c.first ≡ entries_from s 1
  pub tensors : accepted c.tensors e ≡ tensors_from s c.first

-- each key comes before the next
abbrev pub Ascending : List (List ℕ) → Type 0
Ascending [] = Unit {0}
Ascending (k ∷ []) = Unit {0}
Ascending (k ∷ k' ∷ ks) = (before k k' ≡ true) × Ascending (k' ∷ ks)

abbrev pub keys_of : List SheetEntry → List (List ℕ)
keys_of l = map (λ (e : SheetEntry). e.content.key) l

-- each key follows the one before it
ascends : (k : List ℕ) (l : List SheetEntry) → Along (λ last e. follows last e.content.key ≡ true) key_of (last_key k) l → Ascending (k ∷ keys_of l)
ascends k [] h = tt
ascends k (e ∷ l) h = (h.0, ascends e.content.key l h.1)

ascends-first : (l : List SheetEntry) → Along (λ last e. follows last e.content.key ≡ true) key_of no_key l → Ascending (keys_of l)
ascends-first [] h = tt
ascends-first (e ∷ l) h = ascends e.content.key l h.1

-- something stands in a sheet that has a version
not-empty : (s : List ℕ) → get_or s 0 0 ≡ 1 → 1 ≤ length s
not-empty [] h = absurd (omega arith)
not-empty (b ∷ s) h = omega arith

made_of : {s : List ℕ} {c : Records} {e : ℕ} (es : List SheetEntry) (ts : List SheetTensor) (q o : ℕ) → get_or s 0 0 ≡ 1 → accepted es q ≡ entries_from s 1 → accepted ts o ≡ tensors_from s q
    → accepted c e ≡ accepted (record { entries = es; first = q; tensors = ts }) o → SheetTold s c e
made_of {s} {c} {e} es ts q o v i j h =
    let l : c ≡ record { entries = es; first = q; tensors = ts } = cc in
    let m : e ≡ o = cc in
    rw (l, m) (record { version = v; entries = i; tensors = j })

module _ (s : List ℕ) {c : Records} {e : ℕ} (whole : accepted c e ≡ sheet_of s) where
  pub sheet_told : SheetTold s c e
  unfolding sheet_of
  sheet_told = by (eqb (get_or s 0 0) 1) refl whole
    where
      parts : Answer Records
      parts = and_then (entries_from s 1) (λ es q. and_then (tensors_from s q) (λ ts o. accepted (record { entries = es; first = q; tensors = ts }) o))

      by : (b : Bool) → eqb (get_or s 0 0) 1 ≡ b → accepted c e ≡ (if b then parts else refused 31 0) → SheetTold s c e
      by true v h =
          let i = and_inv (entries_from s 1) _ h in
          let j = and_inv (tensors_from s i.1) _ i.3 in
          made_of i.0 j.0 i.1 j.1 (eqb-true _ _ v) i.2 j.2 j.3
      by false v h = let z : ◌≡◌ {A = ℕ} 0 1 = cc in absurd (omega arith)

  -- the entries after the keys before them
  entries-each : accepted c.entries c.first ≡ run (each next key_of (length c.entries) no_key) s 1
  unfolding entries_from
  entries-each = many_each is_metadata next key_of s (length s) no_key 1 c.entries c.first sheet_told.entries

  pub sheet_entries : accepted c.entries c.first ≡ run (times (length c.entries) metadata) s 1
  sheet_entries = each_free next key_of metadata s (λ last p. sure_so (sure_next s last p) (λ a q h. h.0)) (length c.entries) no_key 1 c.entries c.first entries-each

  pub sheet_tensors : accepted c.tensors e ≡ run (times (length c.tensors) tensor) s c.first
  unfolding tensors_from
  sheet_tensors = many_each {S = Unit {0}} goes_on_with (λ z. tensor) (λ z a. z) s (length s) tt c.first c.tensors e sheet_told.tensors

  -- no metadata follows the entries
  pub entries-all : is_metadata s c.first ≡ false
  unfolding entries_from
  entries-all =
      many_all is_metadata next key_of s (no_tag s) (next-on s) (length s) no_key 1 (omega arith) c.entries c.first sheet_told.entries

  -- nothing follows the tensors
  pub sheet_ended : e ≡ length s
  unfolding tensors_from
  sheet_ended =
      let i : 1 ≤ length s = not-empty s sheet_told.version in
      let all : goes_on_with s e ≡ false =
      many_all {S = Unit {0}} goes_on_with (λ z. tensor) (λ z a. z) s (no_more s) (λ z. tensor-on s) (length s) tt c.first (omega arith) c.tensors e sheet_told.tensors in
      omega (arith, ltb-false e (length s) all, inside (times (length c.entries) metadata) s 1 sheet_entries, inside (times (length c.tensors) tensor) s c.first sheet_tensors)

  pub sheet_ascending : Ascending (keys_of c.entries)
  sheet_ascending =
      ascends-first c.entries
      ((sure_each next key_of (λ last p. sure_so (sure_next s last p) (λ a q h. h.1)) (length c.entries) no_key 1).holds c.entries c.first entries-each).1
