-- Where the parts of an accepted entry stand, and what is read there: its key or name is inside the
-- sheet, and its value can be read again. Assumes nothing.
use Rattle.std.specs.Prelude.{if◌then◌else◌, Some}
use Prim.Native.Nat.{ℕ, zero, suc, ◌+◌, ◌*◌, ◌^◌, ◌≤◌, ◌<◌}
use mathlib.Core.Path.{◌≡◌, refl, sym, ap, subst, ◌∙◌}
use mathlib.Core.List.{List}
use mathlib.Core.Bool.{Bool, true, false}
use native.Mathlib.Omega.{arith}
use lib.Dec.{leb, ltb, eqb}
use lib.ListN.{length, take, drop}
use lib.Seq.{take-take}
use borrow.Author.Tests.{leb-true, eqb-true}
use Rattle.reading.specs.Back.{Sure}
use Rattle.reading.specs.Reading.{Reading, done, refuse, place, field, known, Answer, accepted, refused, run, is_accepted}
use Rattle.fields.specs.Value.{number, value as value_of}
use Rattle.reading.proofs.RunLaws.{inside}
use Rattle.reading.proofs.SureLaws.{sure_then, sure_done, sure_refuse, sure_here, sure_check, sure_if, sure_field, sure_run, whatever}
use Rattle.fields.proofs.NumberFields.{number-told}
use Rattle.values.specs.Contents.{type_of, bytes_at, Content}
use Rattle.scalars.specs.Scalars.{scalar_width}
use Rattle.values.specs.Format.{depth}
use Rattle.tensors.specs.Format.{length_at, lengths_of}
use Rattle.values.specs.declared.Dialect.{Dialect}
use Rattle.sheet.specs.declared.EntryParts.{EntryParts}
use Rattle.sheet.specs.Sheet.{entry_of}
use Rattle.sheet.specs.Format.{bytes, Text, text_of, text, scalar, item_type, array, item, value, opening, framed, SheetEntry, entry_body, metadata, shape, big_end, SheetTensor, tensor_body, tensor}

onward-next : {A : Type 0} (r : Answer A) (p w : ℕ) (a : A) (q : ℕ) (b : Bool) → (accepted a q ≡ r → p + w ≤ q) → accepted a q ≡ (if b then r else refused 1 p) → p ≤ q
onward-next r p w a q true ih e =
    let i : p + w ≤ q = ih e in
    omega arith
onward-next r p w a q false ih e = let z : ◌≡◌ {A = ℕ} 0 1 = cc in absurd (omega arith)

-- no program goes back
pub onward : {A : Type 0} (m : Reading A) (s : List ℕ) (p : ℕ) {a : A} {q : ℕ} → accepted a q ≡ run m s p → p ≤ q
unfolding run
onward (done b) s p {a} {q} e = let k : q ≡ p = cc in omega arith
onward (refuse n o) s p e = let z : ◌≡◌ {A = ℕ} 0 1 = cc in absurd (omega arith)
onward (place k) s p e = onward (k p) s p e
onward (field l w k) s p {a} {q} e = onward-next _ p w a q (leb (p + w) (length s)) (onward (k (take l (take w (drop p s)))) s (p + w)) e
onward (known x v o m) s p e = onward m s p e

-- the number of w bytes at p
abbrev pub number_there : List ℕ → ℕ → ℕ → ℕ
number_there s w p = value_of true (take w (drop p s))

-- a text: where it is, how far it goes, and its bytes
pub record TextTold (s : List ℕ) (p : ℕ) (a : Text) (q : ℕ) : Type 0 where
  pub starts : a.span.place ≡ p
  pub ends : q ≡ p + a.span.len
  pub there : q ≤ length s
  pub bytes : bytes_at s a.span ≡ a.bytes
  pub short : a.span.len ≤ 2 ^ 30

-- a metadata entry that begins at p and ends at q: its key stands behind its length, its tag and
-- the key's length, and its value behind its type
pub record EntryTold (s : List ℕ) (p : ℕ) (e : SheetEntry) (q : ℕ) : Type 0 where
  pub starts : e.parts.key.place ≡ p + 9
  pub there : e.parts.key.place + e.parts.key.len ≤ length s
  pub key : bytes_at s e.parts.key ≡ e.content.key
  pub sized : e.parts.key.len ≡ number_there s 4 (p + 5)
  pub formed : e.parts.form ≡ number_there s 1 (e.parts.key.place + e.parts.key.len)
  pub valued : e.parts.value ≡ e.parts.key.place + e.parts.key.len + 1
  pub type_there : e.parts.value ≤ length s
  pub value : accepted e.content.value q ≡ run (value q e.parts.form) s e.parts.value
  pub typed : type_of e.content.value ≡ e.parts.form

-- a tensor that begins at p and ends at q
pub record TensorTold (s : List ℕ) (p : ℕ) (t : SheetTensor) (q : ℕ) : Type 0 where
  pub starts : t.parts.name.place ≡ p + 9
  pub there : t.parts.name.place + t.parts.name.len ≤ length s
  pub name : bytes_at s t.parts.name ≡ t.name
  pub ends : q ≡ t.parts.name.place + t.parts.name.len + 5 + 8 * t.parts.shape.dimensions

-- eight bytes for each of up to four lengths
pub eights : (n : ℕ) → n ≤ 4 → (if ltb 0 n then 8 else 0) + (if ltb 1 n then 8 else 0) + (if ltb 2 n then 8 else 0) + (if ltb 3 n then 8 else 0) ≡ 8 * n
eights zero h = refl
eights (suc zero) h = refl
eights (suc (suc zero)) h = refl
eights (suc (suc (suc zero))) h = refl
eights (suc (suc (suc (suc zero)))) h = refl
eights (suc (suc (suc (suc (suc n))))) h = absurd (omega arith)

module _ (s : List ℕ) where
  -- a scalar ends right after its bytes, which are there
  pub scalar-told : (t p : ℕ) → Sure s (scalar t) p (λ v q. (q ≡ p + scalar_width t) × (q ≤ length s))
  unfolding scalar
  scalar-told t p = sure_then (number-told s (scalar_width t) true p) (λ v q h. sure_check (if eqb t 7 then leb v 1 else true) 31 0 _ (λ e. sure_done (h.0, h.1)))

  pub sure_text_of : (n p : ℕ) → Sure s (text_of n) p (TextTold s p)
  unfolding text_of bytes
  sure_text_of n p = sure_check (leb n (2 ^ 30)) 31 0 _ (λ e. sure_here _ (sure_then {P = λ b q. (q ≡ p + n) × (q ≤ length s) × (take n (drop p s) ≡ b)}
      (sure_field (λ there. (refl, there, sym (take-take n n (drop p s) (omega arith)))))
      (λ b q h. sure_done (record { starts = refl; ends = h.0; there = h.1; bytes = h.2; short = leb-true _ _ e }))))

  pub sure_text : (p : ℕ) → Sure s text p (TextTold s (p + 4))
  unfolding text
  sure_text p = sure_then (number-told s 4 true p) (λ n q h. subst (λ r. Sure s (text_of n) q (TextTold s r)) h.0 (sure_text_of n q))

  -- its length is the number before it
  text-sized : (p : ℕ) → Sure s text p (λ a q. a.span.len ≡ number_there s 4 p)
  unfolding text text_of
  text-sized p = sure_then (number-told s 4 true p) (λ n q h. sure_check (leb n (2 ^ 30)) 31 0 _ (λ e. sure_here _ (sure_then whatever (λ b r u. sure_done h.2))))

  -- what a value is has the type that was asked for
  sure_array : (d : ℕ) (item : ℕ → Reading (Content d)) (p : ℕ) → Sure s (array d item) p (λ c q. type_of c ≡ 9)
  unfolding array
  sure_array zero item p = sure_refuse
  sure_array (suc d) item p = sure_then whatever (λ t q u. sure_check (item_type d t) 31 0 _ (λ e. sure_then whatever (λ n r v. sure_then whatever (λ l o w. sure_done refl))))

  pub sure_value : (e t p : ℕ) → Sure s (value e t) p (λ c q. type_of c ≡ t)
  unfolding value
  sure_value e t p =
      sure_if (ltb 0 (scalar_width t)) _ _ (λ i. sure_then whatever (λ v q u. sure_done refl))
      (λ i. sure_if (eqb t 8) _ _ (λ j. sure_here _ (sure_then whatever (λ a q u. sure_done (sym (eqb-true t 8 j)))))
      (λ j. sure_if (eqb t 9) _ _ (λ k. subst (λ x. Sure s (array depth (item depth)) p (λ c q. type_of c ≡ x)) (sym (eqb-true t 9 k)) (sure_array depth (item depth) p)) (λ k. sure_refuse)))

  pub sure_opening : (tag p : ℕ) → Sure s (opening tag) p (λ e q. (q ≡ p + 5) × (q ≤ length s) × (e ≡ p + 4 + number_there s 4 p))
  unfolding opening
  sure_opening tag p =
      sure_then (number-told s 4 true p) (λ n q h. sure_here _ (sure_then (number-told s 1 true q) (λ t r g. sure_check (eqb t tag) 31 0 _ (λ e. sure_done (omega (arith, h.0, g.0), g.1, rw (h.0, h.2) refl)))))

  -- an entry: what its inner program reads from its tag on, up to the entry's end
  pub sure_framed : {A : Type 0} (tag : ℕ) (inner : ℕ → Reading A) (p : ℕ) → Sure s (framed tag inner) p (λ a q. (p + 5 ≤ length s) × (accepted a q ≡ run (inner q) s (p + 5)) × (q ≡ p + 4 + number_there s 4 p))
  unfolding framed
  sure_framed tag inner p =
      sure_then (sure_opening tag p) (λ e r h. sure_then (sure_run whatever) (λ a q g. sure_here _ (sure_check (eqb q e) 31 0 _ (λ i. sure_done (
        subst (λ x. x ≤ length s) h.0 h.1,
        subst (λ x. accepted a q ≡ run (inner x) s (p + 5)) (sym (eqb-true q e i)) (subst (λ x. accepted a q ≡ run (inner e) s x) h.0 g.1),
        eqb-true q e i ∙ h.2,
      )))))

  -- an entry takes five bytes at least, and ends inside, where its length says
  pub framed-ends : {A : Type 0} (tag : ℕ) (inner : ℕ → Reading A) (p : ℕ) {a : A} {q : ℕ} → accepted a q ≡ run (framed tag inner) s p
      → (p + 5 ≤ q) × (q ≤ length s) × (q ≡ p + 4 + number_there s 4 p)
  framed-ends tag inner p {a} {q} e =
      let h = (sure_framed tag inner p).holds a q e in
      (onward (inner q) s (p + 5) h.1, omega (arith, h.0, inside (inner q) s (p + 5) h.1), h.2)

  sure_keyed : (e p : ℕ) → Sure s (entry_body e) (p + 5) (λ l q. e ≡ q → EntryTold s p l q)
  unfolding entry_body
  sure_keyed e p =
      sure_then (sure_run (sure_text (p + 5))) (λ a q k. let h = k.0 in sure_then (number-told s 1 true q) (λ t r g. sure_here _ (sure_then (sure_run (sure_value e t r)) (λ c u i. sure_done (λ j.
      record {
        starts = omega (arith, h.starts);
        there = omega (arith, h.starts, h.ends, h.there);
        key = h.bytes;
        sized = (text-sized (p + 5)).holds a q k.1;
        formed = let n : q ≡ a.span.place + a.span.len = omega (arith, h.starts, h.ends) in rw n at g.2;
        valued = omega (arith, h.starts, h.ends, g.0);
        type_there = g.1;
        value = subst (λ x. accepted c u ≡ run (value x t) s r) j i.1;
        typed = i.0;
      })))))

  length-told : (k : Dialect) (n i p : ℕ) → Sure s (length_at k n i) p (λ v q. q ≡ p + (if ltb i n then 8 else 0))
  unfolding length_at
  length-told k n i p = by (ltb i n)
    where
      by : (b : Bool) → Sure s (if b then number 8 k.big else done 1) p (λ v q. q ≡ p + (if b then 8 else 0))
      by true = record { holds = λ v q e. ((number-told s 8 k.big p).holds v q e).0 }
      by false = sure_done (omega arith)

  lengths-told : (k : Dialect) (n p : ℕ) → n ≤ 4 → Sure s (lengths_of k n) p (λ x q. q ≡ p + 8 * x.dimensions)
  unfolding lengths_of
  lengths-told k n p few =
      sure_then (length-told k n 0 p) (λ a q h0. sure_then (length-told k n 1 q) (λ b r h1. sure_then (length-told k n 2 r) (λ c t h2. sure_then (length-told k n 3 t) (λ d u h3.
      sure_done (omega (arith, h0, h1, h2, h3, eights n few))))))

  shape-told : (p : ℕ) → Sure s shape p (λ x q. q ≡ p + 1 + 8 * x.dimensions)
  unfolding shape
  shape-told p =
      sure_then (number-told s 1 true p) (λ n q h. sure_check (leb n 4) 31 0 _ (λ e. subst (λ y. Sure s (lengths_of big_end n) q (λ x r. r ≡ y + 8 * x.dimensions)) h.0 (lengths-told big_end n q (leb-true _ _ e))))

  sure_drawn : (p : ℕ) → Sure s tensor_body (p + 5) (TensorTold s p)
  unfolding tensor_body
  sure_drawn p =
      sure_then (sure_text (p + 5)) (λ a q h. sure_then (number-told s 4 true q) (λ k r g. sure_then (shape-told r) (λ x u i. sure_done
      (record {
        starts = omega (arith, h.starts);
        there = omega (arith, h.starts, h.ends, h.there);
        name = h.bytes;
        ends = omega (arith, h.starts, h.ends, g.0, i);
      }))))

  pub entry-told : (p : ℕ) {e : SheetEntry} {q : ℕ} → accepted e q ≡ run metadata s p → EntryTold s p e q
  unfolding metadata
  entry-told p {e} {q} r =
      let h = (sure_framed 1 entry_body p).holds e q r in
      (sure_keyed q p).holds e q h.1 refl

  pub entry-ends : (p : ℕ) {e : SheetEntry} {q : ℕ} → accepted e q ≡ run metadata s p → (p < q) × (q ≤ length s) × (q ≡ p + 4 + number_there s 4 p)
  unfolding metadata
  entry-ends p r =
      let h = framed-ends 1 entry_body p r in
      (omega (arith, h.0), h.1, h.2)

  pub tensor-told : (p : ℕ) {t : SheetTensor} {q : ℕ} → accepted t q ≡ run tensor s p → TensorTold s p t q
  unfolding tensor
  tensor-told p {t} {q} r =
      let h = (sure_framed 2 (λ e. tensor_body) p).holds t q r in
      (sure_drawn p).holds t q h.1

  pub tensor-ends : (p : ℕ) {t : SheetTensor} {q : ℕ} → accepted t q ≡ run tensor s p → (p < q) × (q ≤ length s)
  unfolding tensor
  tensor-ends p r =
      let h = framed-ends 2 (λ e. tensor_body) p r in
      (omega (arith, h.0), h.1)

-- What stands at the places of an entry that is there.

-- the parts of the entry at p, whose key has m bytes
abbrev pub parts_there : List ℕ → ℕ → ℕ → EntryParts
parts_there s p m = record { key = record { place = p + 9; len = m }; form = number_there s 1 (p + 9 + m); value = p + 9 + m + 1 }

parts_are : (x : EntryParts) {place len form from : ℕ} → x.key.place ≡ place → x.key.len ≡ len → x.form ≡ form → x.value ≡ from
    → x ≡ record { key = record { place = place; len = len }; form = form; value = from }
parts_are x a b c d = rw (← a, ← b, ← c, ← d) refl

-- the entry at p, which has n bytes behind its length, and whose key has m
pub record EntryStands (s : List ℕ) (p n m : ℕ) : Type 0 where
  pub there : p + 9 + m + 1 ≤ length s
  pub ends : p + 4 + n ≤ length s
  pub is : Some (parts_there s p m, p + 4 + n) ≡ entry_of (run metadata s p)

module _ (s : List ℕ) (p : ℕ) where
  stands : (r : Answer SheetEntry) → r ≡ run metadata s p → is_accepted r ≡ true → EntryStands s p (number_there s 4 p) (number_there s 4 (p + 5))
  stands (refused n o) h ok = let z : ◌≡◌ {A = ℕ} 0 1 = cc in absurd (omega arith)
  stands (accepted e q) h ok =
      let t = entry-told s p h in
      let f = entry-ends s p h in
      let place : e.parts.key.place + e.parts.key.len ≡ p + 9 + number_there s 4 (p + 5) = rw (t.starts, t.sized) refl in
      let x = parts_are e.parts t.starts t.sized (rw place at t.formed) (t.valued ∙ ap (λ y. y + 1) place) in
      record {
        there = omega (arith, t.valued, t.type_there, place);
        ends = omega (arith, f.1, f.2);
        is = ap (λ y. Some (y, p + 4 + number_there s 4 p)) (sym x) ∙ ap (λ o. Some (e.parts, o)) (sym f.2) ∙ ap entry_of h;
      }

  -- an entry that was accepted once stands where its own numbers say
  pub entry-stands : is_accepted (run metadata s p) ≡ true → {n m : ℕ} → n ≡ number_there s 4 p → m ≡ number_there s 4 (p + 5) → EntryStands s p n m
  entry-stands all {n} {m} a b = rw (a, b) (stands (run metadata s p) refl all)
