-- Entries of a sheet as they are written: each one's own bytes, and the place of the alignment's
-- own among them. Assumes nothing.
use Rattle.std.specs.Prelude.{if◌then◌else◌, Some}
use Prim.Native.Nat.{ℕ, suc, ◌+◌, ◌-◌, ◌≤◌, ◌<◌}
use mathlib.Core.Path.{◌≡◌, refl, sym, ap, subst, ◌∙◌}
use mathlib.Core.Bool.{Bool, true, false}
use mathlib.Core.List.{List, [], ◌∷◌, ◌++◌, map, append_assoc}
use native.Mathlib.Nat.{sub-zero}
use native.Mathlib.Omega.{arith}
use lib.ListN.{length, take, drop, length-append}
use Rattle.reading.specs.Back.{got, bytes_of_all}
use Rattle.reading.specs.Each.{times}
use Rattle.fields.specs.Order.{before}
use Rattle.reading.specs.Reading.{Answer, accepted, refused, run, is_accepted}
use Rattle.reading.proofs.SureLaws.{sure_each, whatever}
use Rattle.reading.proofs.Repetition.{times-accepted, times-got, times-ends}
use Rattle.values.specs.Contents.{EntryContent, type_bytes, text_bytes, value_bytes, entry_bytes, inside_of}
use Rattle.values.specs.Format.{size_width, depth, alignment_key}
use Rattle.values.specs.declared.Dialect.{Dialect}
use Rattle.plan.specs.Header.{inserted, entry_in, alignment_entry}
use Rattle.sheet.specs.Format.{SheetEntry, value, metadata}
use Rattle.sheet.specs.Sheet.{entry_of}
use Rattle.sheet.specs.declared.EntryParts.{EntryParts}
use Rattle.sheet.proofs.ManyEntries.{key-stands}
use Rattle.sheet.proofs.PartsFound.{entry-told}
use Rattle.sheet.proofs.BackFromAnswers.{entry_yes}
use Rattle.writer.proofs.RowsWritten.{rows_append, Split, split}
use Rattle.plan.proofs.Drafts.{added-length}
use Rattle.plan.specs.Steps.{content_read}
use Rattle.sheet.specs.Steps.{step_of}
use Rattle.writer.specs.Steps.{coming_before}

-- the entry at a place whose parts are x, and which ends at q
pub record EntryThere (s : List ℕ) (from : ℕ) (x : EntryParts) (q : ℕ) : Type 0 where
  pub what : SheetEntry
  pub is : accepted what q ≡ run metadata s from
  pub key : inside_of s x.key ≡ what.content.key
  pub ends : Some q ≡ step_of (run (value q x.form) s x.value)
  pub bytes : (k : Dialect) {b : List ℕ} → b ≡ inside_of s x.key → text_bytes k b ++ type_bytes k x.form ++ value_bytes (suc depth) k (content_read (run (value q x.form) s x.value)) ≡ entry_bytes k what.content

module _ (s : List ℕ) (from : ℕ) where
  entry-bytes : (e : SheetEntry) (q : ℕ) → accepted e q ≡ run metadata s from → (k : Dialect)
      → text_bytes k (inside_of s e.parts.key) ++ type_bytes k e.parts.form ++ value_bytes (suc depth) k (content_read (run (value q e.parts.form) s e.parts.value)) ≡ entry_bytes k e.content
  unfolding entry_bytes
  entry-bytes e q r k =
      let told = entry-told s from r in
      rw (key-stands s from r, ← told.value, told.typed) refl

  there : (e : SheetEntry) (q : ℕ) → accepted e q ≡ run metadata s from → EntryThere s from e.parts q
  there e q r = record {
    what = e;
    is = r;
    key = key-stands s from r;
    ends = ap step_of (entry-told s from r).value;
    bytes = λ k i. rw i (entry-bytes e q r k);
  }

  pub entry-there : {x : EntryParts} {q : ℕ} → Some (x, q) ≡ entry_of (run metadata s from) → EntryThere s from x q
  entry-there {x} {q} f = let y = entry_yes (run metadata s from) f in rw y.told (there y.what q y.is)

-- The alignment's place.

-- of n entries i come before it, with as many of the others, which stand from the place on
pub record Passed (s : List ℕ) (n from i : ℕ) : Type 0 where
  pub low : i ≤ n
  pub all : is_accepted (run (times (n - i) metadata) s from) ≡ true
  pub count : coming_before (got (run (times n metadata) s 1)) ≡ i + coming_before (got (run (times (n - i) metadata) s from))

coming_here : (i : ℕ) (e : SheetEntry) (es : List SheetEntry) → before alignment_key e.content.key ≡ true → i + coming_before (e ∷ es) ≡ i
coming_here i e es h = rw h (omega arith)

coming_later : (i : ℕ) (e : SheetEntry) (es : List SheetEntry) → before alignment_key e.content.key ≡ false → i + coming_before (e ∷ es) ≡ i + 1 + coming_before es
coming_later i e es h = rw h (omega arith)

module _ (s : List ℕ) (n : ℕ) where
  pub passed_start : is_accepted (run (times n metadata) s 1) ≡ true → Passed s n 1 0
  passed_start h = record { low = omega arith; all = rw sub-zero h; count = rw sub-zero (omega arith) }

  module _ {from i : ℕ} (h : Passed s n from i) where
    module _ (below : i < n) {e : SheetEntry} {q : ℕ} (is : accepted e q ≡ run metadata s from) where
      turned : coming_before (got (run (times n metadata) s 1)) ≡ i + coming_before (e ∷ got (run (times (n - (i + 1)) metadata) s q))
      turned = h.count ∙ ap (λ l. i + coming_before l) (times-got metadata s from n i below is h.all)

      pub passed_here : before alignment_key e.content.key ≡ true → i ≡ coming_before (got (run (times n metadata) s 1))
      passed_here t = sym (turned ∙ coming_here i e (got (run (times (n - (i + 1)) metadata) s q)) t)

      pub passed-turn : before alignment_key e.content.key ≡ false → Passed s n q (i + 1)
      passed-turn t = record {
        low = omega arith;
        all = times-accepted metadata s from n i below is h.all;
        count = turned ∙ coming_later i e (got (run (times (n - (i + 1)) metadata) s q)) t;
      }

    pub passed-end : n ≤ i → n ≡ coming_before (got (run (times n metadata) s 1))
    passed-end over =
        let l = h.low in
        let c = h.count ∙ ap (λ r. i + coming_before (got r)) (times-ends metadata s from n i over) in
        omega arith

coming_by : (b : Bool) (n m : ℕ) → n ≤ m → (if b then 0 else suc n) ≤ suc m
coming_by true n m h = omega arith
coming_by false n m h = omega arith

coming_within : (es : List SheetEntry) → coming_before es ≤ length es
coming_within [] = omega arith
coming_within (e ∷ es) = coming_by (before alignment_key e.content.key) (coming_before es) (length es) (coming_within es)

inserted_by : (a : ℕ) (e : SheetEntry) (es : List SheetEntry) (b : Bool) → inserted a (map entry_in es) ≡ map entry_in (take (coming_before es) es) ++ alignment_entry a ∷ map entry_in (drop (coming_before es) es)
    → (if b then alignment_entry a ∷ entry_in e ∷ map entry_in es else entry_in e ∷ inserted a (map entry_in es))
    ≡ map entry_in (take (if b then 0 else suc (coming_before es)) (e ∷ es)) ++ alignment_entry a ∷ map entry_in (drop (if b then 0 else suc (coming_before es)) (e ∷ es))
inserted_by a e es true h = refl
inserted_by a e es false h = ap (λ l. entry_in e ∷ l) h

-- it stands between those that come before it and the others
inserted_between : (a : ℕ) (es : List SheetEntry) → inserted a (map entry_in es) ≡ map entry_in (take (coming_before es) es) ++ alignment_entry a ∷ map entry_in (drop (coming_before es) es)
inserted_between a [] = refl
inserted_between a (e ∷ es) = inserted_by a e es (before alignment_key e.content.key) (inserted_between a es)

inserted-rows : (enc : EntryContent → List ℕ) (a : ℕ) (es : List SheetEntry)
    → bytes_of_all enc (map entry_in (take (coming_before es) es)) ++ enc (alignment_entry a) ++ bytes_of_all enc (map entry_in (drop (coming_before es) es)) ≡ bytes_of_all enc (inserted a (map entry_in es))
unfolding bytes_of_all
inserted-rows enc a es =
    append_assoc (bytes_of_all enc (map entry_in (take (coming_before es) es))) (enc (alignment_entry a)) (bytes_of_all enc (map entry_in (drop (coming_before es) es)))
    ∙ sym (ap (bytes_of_all enc) (inserted_between a es) ∙ rows_append enc (map entry_in (take (coming_before es) es)) (alignment_entry a ∷ map entry_in (drop (coming_before es) es)))

three_sizes : (x y z : List ℕ) {l : List ℕ} {m : ℕ} → x ++ y ++ z ≡ l → length y ≡ m → length l ≡ length x + m + length z
three_sizes x y z {l} {m} e i = sym (ap length e) ∙ length-append (x ++ y) z ∙ ap (λ n. n + length z) (length-append x y ∙ ap (λ n. length x + n) i)

got-there : {A : Type 0} (r : Answer (List A)) → is_accepted r ≡ true → (e : ℕ) × (accepted (got r) e ≡ r)
got-there (accepted l e) h = (e, refl)
got-there (refused n p) h = let z : ◌≡◌ {A = ℕ} 0 1 = cc in absurd (omega arith)

-- the bytes of the entries that were read
abbrev pub written : Dialect → Answer (List SheetEntry) → List ℕ
written k r = bytes_of_all (entry_bytes k) (map entry_in (got r))

-- total entries of a sheet, n of them before the place q and the others from it on: the alignment's
-- own stands between them
pub record Apart (k : Dialect) (a : ℕ) (s : List ℕ) (total n q : ℕ) : Type 0 where
  pub within : n ≤ total
  pub ends : Some q ≡ step_of (run (times n metadata) s 1)
  pub lower : is_accepted (run (times n metadata) s 1) ≡ true
  pub upper : is_accepted (run (times (total - n) metadata) s q) ≡ true
  pub bytes : written k (run (times n metadata) s 1) ++ entry_bytes k (alignment_entry a) ++ written k (run (times (total - n) metadata) s q)
      ≡ bytes_of_all (entry_bytes k) (inserted a (map entry_in (got (run (times total metadata) s 1))))
  pub size : length (bytes_of_all (entry_bytes k) (inserted a (map entry_in (got (run (times total metadata) s 1)))))
      ≡ length (written k (run (times n metadata) s 1)) + (size_width k + 25) + length (written k (run (times (total - n) metadata) s q))

module _ (k : Dialect) (a : ℕ) (s : List ℕ) (total : ℕ) (all : is_accepted (run (times total metadata) s 1) ≡ true) where
  parts-bytes : (es : List SheetEntry) (n : ℕ) (r u : Answer (List SheetEntry)) → n ≡ coming_before es → take n es ≡ got r → drop n es ≡ got u
      → written k r ++ entry_bytes k (alignment_entry a) ++ written k u ≡ bytes_of_all (entry_bytes k) (inserted a (map entry_in es))
  parts-bytes es n r u j h i = rw (← h, ← i, j) (inserted-rows (entry_bytes k) a es)

  apart_of : (n e : ℕ) → n ≡ coming_before (got (run (times total metadata) s 1)) → n ≤ total → (h : Split metadata s n (total - n) 1 (got (run (times total metadata) s 1)) e) → Apart k a s total n h.mid
  apart_of n e j w h =
      let r = run (times n metadata) s 1 in
      let u = run (times (total - n) metadata) s h.mid in
      let b = parts-bytes (got (run (times total metadata) s 1)) n r u j (ap got h.lower) (ap got h.upper) in
      record {
        within = w;
        ends = ap step_of h.lower;
        lower = ap is_accepted (sym h.lower);
        upper = ap is_accepted (sym h.upper);
        bytes = b;
        size = three_sizes (written k r) (entry_bytes k (alignment_entry a)) (written k u) b (added-length k a);
      }

  pub apart-mid : (n : ℕ) → n ≡ coming_before (got (run (times total metadata) s 1)) → (q : ℕ) × Apart k a s total n q
  apart-mid n j =
      let es = got (run (times total metadata) s 1) in
      let g = got-there (run (times total metadata) s 1) all in
      let l : length es ≡ total = ((sure_each {P = λ z a. Unit {0}} _ _ (λ z o. whatever) total tt 1).holds es g.0 g.1).0 in
      let w : n ≤ total = omega (arith, coming_within es) in
      let m : total ≡ n + (total - n) = omega arith in
      let h = split metadata s (total - n) n 1 (subst (λ x. accepted es g.0 ≡ run (times x metadata) s 1) m g.1) in
      (h.mid, apart_of n g.0 j w h)

  pub apart : (n : ℕ) → n ≡ coming_before (got (run (times total metadata) s 1)) → (q : ℕ) → Some q ≡ step_of (run (times n metadata) s 1) → Apart k a s total n q
  apart n j q e =
      let h = apart-mid n j in
      let f : Some q ≡ Some h.0 = e ∙ sym h.1.ends in
      let i : q ≡ h.0 = cc in
      rw i h.1
