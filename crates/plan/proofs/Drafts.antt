-- What a draft tells of a sheet that is well formed: its lists, how long its header is, and what
-- the tests of the counts and of the room say of it. Assumes nothing.
use Rattle.reading.specs.Replies.{gives, refuses}
use Rattle.std.specs.Prelude.{if◌then◌else◌, Some, None}
use Prim.Native.Nat.{ℕ, ◌+◌, ◌-◌, ◌≤◌, ◌<◌}
use mathlib.Core.Path.{◌≡◌, refl, sym, ap, subst, ◌∙◌}
use mathlib.Core.Bool.{Bool, true, false}
use mathlib.Core.List.{List, [], ◌∷◌, map}
use native.Mathlib.Omega.{arith}
use lib.Dec.{leb, eqb}
use lib.ListN.{length, length-map}
use borrow.Author.Tests.{le-leb, lt-leb, leb-true, leb-false, eqb-false}
use Rattle.reading.specs.Back.{got, bytes_of_all}
use Rattle.reading.specs.Each.{times}
use Rattle.fields.specs.Order.{before}
use Rattle.reading.specs.Reading.{Answer, accepted, refused, run, is_accepted}
use Rattle.layout.specs.Layout.{nothing_laid}
use Rattle.layout.specs.Padding.{padded}
use Rattle.layout.proofs.Padding.{padded-above}
use Rattle.values.specs.declared.Dialect.{Dialect}
use Rattle.values.specs.Format.{alignment_key, size_width, depth}
use Rattle.scalars.specs.Scalars.{scalar_width}
use Rattle.values.specs.Contents.{EntryContent, entry_bytes}
use Rattle.tensors.specs.Contents.{tensor_bytes}
use Rattle.sheet.specs.Format.{SheetEntry, metadata, tensor}
use Rattle.sheet.specs.Sheet.{Records, sheet_of}
use Rattle.sheet.proofs.WholeSheet.{sheet_entries, sheet_tensors}
use Rattle.plan.specs.declared.Draft.{Draft}
use Rattle.plan.specs.Header.{own_alignment, adds, alignment_entry, inserted, entry_in, entries_with, entries_of, laid_from, header_contents, end_of, start_of, records_in}
use Rattle.plan.specs.Plan.{draft_with, draft_of}
use Rattle.plan.specs.Steps.{roomed, taken_from}
use Rattle.plan.proofs.Rooms.{taken_thrice}
use Rattle.plan.proofs.PartLengths.{one-length, entry_length, header-length, rows_none, rows_more}

-- the entry that is added
pub added-length : (k : Dialect) (a : ℕ) → length (entry_bytes k (alignment_entry a)) ≡ size_width k + 25
unfolding scalar_width
added-length k a = entry_length k (alignment_entry a) ∙ omega (arith, one-length k depth 4 a)

inserted-length : (k : Dialect) (a : ℕ) (es : List EntryContent) → length (bytes_of_all (entry_bytes k) (inserted a es)) ≡ size_width k + 25 + length (bytes_of_all (entry_bytes k) es)
inserted-length k a [] = omega (arith, rows_more (entry_bytes k) (alignment_entry a) [], rows_none (entry_bytes k), added-length k a)
inserted-length k a (e ∷ es) = by (before alignment_key e.key) (inserted-length k a es)
  where
    by : (b : Bool) → length (bytes_of_all (entry_bytes k) (inserted a es)) ≡ size_width k + 25 + length (bytes_of_all (entry_bytes k) es)
        → length (bytes_of_all (entry_bytes k) (if b then alignment_entry a ∷ e ∷ es else e ∷ inserted a es)) ≡ size_width k + 25 + length (bytes_of_all (entry_bytes k) (e ∷ es))
    by true h = omega (arith, rows_more (entry_bytes k) (alignment_entry a) (e ∷ es), added-length k a)
    by false h = omega (arith, rows_more (entry_bytes k) e (inserted a es), rows_more (entry_bytes k) e es, h)

inserted-count : (a : ℕ) (es : List EntryContent) → length (inserted a es) ≡ length es + 1
inserted-count a [] = refl
inserted-count a (e ∷ es) = by (before alignment_key e.key) (inserted-count a es)
  where
    by : (b : Bool) → length (inserted a es) ≡ length es + 1 → length (if b then alignment_entry a ∷ e ∷ es else e ∷ inserted a es) ≡ length (e ∷ es) + 1
    by true h = omega arith
    by false h = omega arith

with_length : (k : Dialect) (b : Bool) (a : ℕ) (es : List SheetEntry) → length (bytes_of_all (entry_bytes k) (entries_with b a es)) ≡ (if b then size_width k + 25 else 0) + length (bytes_of_all (entry_bytes k) (map entry_in es))
with_length k true a es = inserted-length k a (map entry_in es)
with_length k false a es = omega arith

with_count : (b : Bool) (a : ℕ) (es : List SheetEntry) → length (entries_with b a es) ≡ length es + (if b then 1 else 0)
with_count true a es = inserted-count a (map entry_in es) ∙ ap (λ n. n + 1) (length-map es entry_in)
with_count false a es = length-map es entry_in ∙ omega arith

-- how many entries the header has
pub entries-count : (a : ℕ) (es : List SheetEntry) → length (entries_of a es) ≡ length es + (if adds a (own_alignment es) then 1 else 0)
entries-count a es = with_count (adds a (own_alignment es)) a es

-- how long it is
pub end-length : (k : Dialect) (a : ℕ) (c : Records) → 8 + size_width k + size_width k + (if adds a (own_alignment c.entries) then size_width k + 25 else 0) + length (bytes_of_all (entry_bytes k) (map entry_in c.entries))
    + length (bytes_of_all (tensor_bytes k) (laid_from a nothing_laid c.tensors)) ≡ end_of k a c
end-length k a c = omega (arith, header-length k (header_contents a c), with_length k (adds a (own_alignment c.entries)) a c.entries)

-- the lists of a sheet that is well formed, from a draft of it
module _ (s : List ℕ) (whole : is_accepted (sheet_of s) ≡ true) where
  record Lists (c : Records) : Type 0 where
    end : ℕ
    entries : accepted c.entries c.first ≡ run (times (length c.entries) metadata) s 1
    tensors : accepted c.tensors end ≡ run (times (length c.tensors) tensor) s c.first

  lists_of : (r : Answer Records) → r ≡ sheet_of s → is_accepted r ≡ true → Lists (records_in r)
  lists_of (accepted c e) h ok = record { end = e; entries = sheet_entries s h; tensors = sheet_tensors s h }
  lists_of (refused n p) h ok = let z : ◌≡◌ {A = ℕ} 0 1 = cc in absurd (omega arith)

  lists : Lists (records_in (sheet_of s))
  lists = lists_of (sheet_of s) refl whole

  module _ {d : Draft} {b : Bool} (told : d ≡ draft_with b (records_in (sheet_of s))) where
    listed-entries : accepted (records_in (sheet_of s)).entries (records_in (sheet_of s)).first ≡ run (times d.entries metadata) s 1
    listed-entries = lists.entries ∙ ap (λ (y : Draft). run (times y.entries metadata) s 1) (sym told)

    listed-tensors : accepted (records_in (sheet_of s)).tensors lists.end ≡ run (times d.tensors tensor) s d.first
    listed-tensors = lists.tensors ∙ ap (λ (y : Draft). run (times y.tensors tensor) s y.first) (sym told)

    pub entries-there : is_accepted (run (times d.entries metadata) s 1) ≡ true
    entries-there = ap is_accepted (sym listed-entries)

    pub entries-got : got (run (times d.entries metadata) s 1) ≡ (records_in (sheet_of s)).entries
    entries-got = ap got (sym listed-entries)

    pub tensors-there : is_accepted (run (times d.tensors tensor) s d.first) ≡ true
    tensors-there = ap is_accepted (sym listed-tensors)

    pub tensors-got : got (run (times d.tensors tensor) s d.first) ≡ (records_in (sheet_of s)).tensors
    tensors-got = ap got (sym listed-tensors)

    -- what its header leaves of a room, where x is what the added entry takes
    pub header_taken : (k : Dialect) (room a : ℕ) → d.adds ≡ adds a (own_alignment (records_in (sheet_of s)).entries) → {x : ℕ} → x ≡ (if d.adds then size_width k + 25 else 0)
        → taken_from (taken_from (taken_from (Some room) (8 + size_width k + size_width k + x)) (length (bytes_of_all (entry_bytes k) (map entry_in (got (run (times d.entries metadata) s 1))))))
        (length (bytes_of_all (tensor_bytes k) (laid_from a nothing_laid (got (run (times d.tensors tensor) s d.first)))))
        ≡ taken_from (Some room) (end_of k a (records_in (sheet_of s)))
    header_taken k room a adding {x} extra =
        let w = size_width k in
        let more : x ≡ (if adds a (own_alignment (records_in (sheet_of s)).entries) then w + 25 else 0) = extra ∙ ap (λ t. if t then w + 25 else 0) adding in
        taken_thrice (Some room) _ _ _
        ∙ ap (λ l. taken_from (Some room) (8 + w + w + x + length (bytes_of_all (entry_bytes k) (map entry_in l)) + length (bytes_of_all (tensor_bytes k) (laid_from a nothing_laid (got (run (times d.tensors tensor) s d.first)))))) entries-got
        ∙ ap (λ l. taken_from (Some room) (8 + w + w + x + length (bytes_of_all (entry_bytes k) (map entry_in (records_in (sheet_of s)).entries)) + length (bytes_of_all (tensor_bytes k) (laid_from a nothing_laid l)))) tensors-got
        ∙ ap (λ y. taken_from (Some room) (8 + w + w + y + length (bytes_of_all (entry_bytes k) (map entry_in (records_in (sheet_of s)).entries)) + length (bytes_of_all (tensor_bytes k) (laid_from a nothing_laid (records_in (sheet_of s)).tensors)))) more
        ∙ ap (taken_from (Some room)) (end-length k a (records_in (sheet_of s)))

-- a draft by its own word of the alignment
pub draft-with : (c : Records) {d : Draft} {b : Bool} → d ≡ draft_with b c → d ≡ draft_with d.adds c
draft-with c e = e ∙ ap (λ b. draft_with b c) (sym (ap (λ (y : Draft). y.adds) e))

-- The room.

-- nothing is padded down
pub padded-not-below : (a n : ℕ) → n ≤ padded a n
padded-not-below a n = by (eqb a 0) refl
  where
    by : (b : Bool) → eqb a 0 ≡ b → n ≤ padded a n
    by true e = rw e (omega arith)
    by false e =
        let h = eqb-false a 0 e in
        padded-above a (omega arith) n

left_cases : (b : Bool) (n : ℕ) {m : ℕ} → Some m ≡ (if b then Some n else None) → (b ≡ true) × (m ≡ n)
left_cases true n e = (refl, cc)
left_cases false n e = let z : ◌≡◌ {A = ℕ} 0 1 = cc in absurd (omega arith)

over_cases : (b : Bool) (n : ℕ) → None ≡ (if b then Some n else None) → b ≡ false
over_cases true n e = let z : ◌≡◌ {A = ℕ} 0 1 = cc in absurd (omega arith)
over_cases false n e = refl

-- what is left tells what was taken
pub record Taken (room n left : ℕ) : Type 0 where
  pub fits : n ≤ room
  pub less : left ≤ room
  pub back : room - left ≡ n

pub left_taken : {room n m : ℕ} → Some m ≡ taken_from (Some room) n → Taken room n m
unfolding taken_from
left_taken {room} {n} {m} e =
    let h = left_cases (leb n room) (room - n) e in
    let i : n ≤ room = leb-true _ _ h.0 in
    let j : m ≡ room - n = h.1 in
    record { fits = i; less = omega arith; back = omega arith }

pub over_taken : {room n : ℕ} → None ≡ taken_from (Some room) n → room < n
unfolding taken_from
over_taken {room} {n} e = leb-false _ _ (over_cases (leb n room) (room - n) e)

module _ (k : Dialect) (a room : ℕ) (c : Records) where
  pub no_room : room < start_of k a c → refuses 38 0 ≡ roomed k a room c
  no_room h = rw (lt-leb (start_of k a c) room h)

  pub enough-room : {d : Draft} {e t : ℕ} → d ≡ draft_of a c → e ≡ end_of k a c → t ≡ start_of k a c → t ≤ room → gives (record { draft = d; end = e; start = t }) ≡ roomed k a room c
  enough-room {d} {e} {t} f g i h =
      ap (λ y. gives (record { draft = y; end = e; start = t })) f
      ∙ ap (λ y. gives (record { draft = draft_of a c; end = y; start = t })) g
      ∙ ap (λ y. gives (record { draft = draft_of a c; end = end_of k a c; start = y })) i
      ∙ rw (le-leb (start_of k a c) room (subst (λ y. y ≤ room) i h))
