-- A header that was written reads back: its sheet, its alignment, its end and the start of its
-- data, in every version and byte order. Assumes nothing.
use Prim.Native.Nat.{ℕ, ◌+◌, ◌≤◌}
use mathlib.Core.Path.{◌≡◌, sym, ap, subst, ◌∙◌}
use mathlib.Core.Bool.{true}
use mathlib.Core.List.{List, [], ◌∷◌, ◌++◌, map, append_assoc, append-nil}
use native.Mathlib.Omega.{arith}
use native.Mathlib.Nat.{zero-add}
use lib.ListN.{length, length-append}
use borrow.Author.Tests.{le-leb}
use Rattle.reading.specs.Back.{same, Back, All, Sure, bytes_of_all}
use Rattle.reading.specs.Each.{times, fold}
use Rattle.reading.specs.Reading.{Reading, Answer, accepted, refused, run, ◌>>=◌, seen}
use Rattle.reading.proofs.BackLaws.{stands-first, follows, exactly, at_place, nothing_more, checked, shown}
use Rattle.reading.proofs.EachChecked.{checked-each}
use Rattle.kinds.specs.Shape.{greatest}
use Rattle.reading.specs.Ceilings.{full}
use Rattle.header.specs.Answers.{reader_run}
use Rattle.values.specs.Contents.{FlaggedEntry, flagged_entry, entry_bytes, flagged_entry_of}
use Rattle.tensors.specs.Contents.{TensorContent, tensor_bytes, tensor_content}
use Rattle.tensors.specs.Format.{offset_place}
use Rattle.values.specs.Format.{entry}
use Rattle.tensors.proofs.TensorsBack.{tensors-back}
use Rattle.values.proofs.ValuesBack.{entries-back}
use Rattle.layout.specs.Padding.{is_multiple, padded}
use Rattle.header.specs.Contents.{Contents, start_in, header_bytes, alignment_in, Summary, summary_of, summary_in, FitsContents}
use Rattle.start.specs.Contents.{start_bytes}
use Rattle.start.specs.Format.{start}
use Rattle.header.specs.Format.{latest, is_aligned, judged, header}
use Rattle.header.proofs.HeaderCeilings.{full_reader}
use Rattle.header.proofs.AlignmentFound.{sure_entries_say, same-alignment, same_entries}
use Rattle.start.specs.declared.Rooms.{Rooms}
use Rattle.values.specs.declared.Dialect.{Dialect}
use Rattle.values.specs.declared.Entry.{Entry}
use Rattle.tensors.specs.declared.Tensor.{Tensor}
use Rattle.start.proofs.StartBack.{magic-back, version-back, counts-back}

-- what a view shows, and one thing more
record Both (C D : Type 0) : Type 0 where
  first : C
  second : D

abbrev both : {C D : Type 0} → C → D → Both C D
both c d = record { first = c; second = d }

module _ {s : List ℕ} where
  -- a part that is shown as c, with something that is known of whatever is accepted as c
  knowing : {A C D : Type 0} {view : A → C} {m : Reading A} {p : ℕ} {l : List ℕ} {c : C} {d : D} {P : A → ℕ → Type 0} (also : A → D) → Back s view m p l c → Sure s m p P
      → ((a : A) → P a (p + length l) → view a ≡ c → also a ≡ d) → Back s (λ a. both (view a) (also a)) m p l (both c d)
  unfolding seen
  knowing also b sure made = record {
    reads = λ h.
        let r = shown b h in
        rw (r.1, r.2, made r.0 (sure.holds r.0 _ (sym r.1)) r.2);
  }

  -- a last part after which nothing is read
  closing : {A B C D : Type 0} {view : A → C} {view' : B → D} {m : Reading A} {f : A → Reading B} {p : ℕ} {l : List ℕ} {c : C} {d : D}
      → Back s view m p l c → ((a : A) → view a ≡ c → Back s view' (f a) (p + length l) [] d) → Back s view' (m >>= f) p l d
  closing {view' = view'} {m} {f} {p} {l} {d = d} last then = subst (λ x. Back s view' (m >>= f) p x d) (append-nil l) (follows last then)

-- tensors that are shown as contents have the offsets of those
aligned_too : (s : List ℕ) (a : ℕ) (ts : List Tensor) (cs : List TensorContent) → map (tensor_content s) ts ≡ cs → All (λ (t : TensorContent). is_multiple a t.offset ≡ true) cs
    → All (λ (t : Tensor). is_aligned a t ≡ true) ts
aligned_too s a [] cs f h = tt
aligned_too s a (t ∷ ts) [] f h = let z : ◌≡◌ {A = ℕ} 0 1 = cc in absurd (omega arith)
aligned_too s a (t ∷ ts) (x ∷ cs) f h =
    let first : tensor_content s t ≡ x = cc in
    let others : map (tensor_content s) ts ≡ cs = cc in
    let offset : t.offset ≡ x.offset = ap (λ (y : TensorContent). y.offset) first in
    (rw offset h.0, aligned_too s a ts cs others h.1)

module _ (rooms : Rooms) (cap : ℕ) (k : Dialect) (c : Contents) (fits : FitsContents rooms k c) where
  start_back : {s : List ℕ} (p : ℕ) → Back s same (start rooms) p (start_bytes (start_in k c)) (start_in k c)
  unfolding start start_bytes
  start_back p =
      simp append_assoc (exactly _ (magic-back k.turned p) (exactly _ (version-back k fits.known _)
      (counts-back rooms k _ _ fits.tensor_count fits.entry_count fits.tensor_room fits.entry_room _)))

  -- the entries, and the alignment that they give
  aligned-back : (s : List ℕ) (p : ℕ)
      → Back s (λ es. both (map (flagged_entry_of k s) es) (fold latest 32 es)) (times (length c.entries) (entry k cap)) p (bytes_of_all (entry_bytes k) c.entries) (both (map flagged_entry c.entries) (alignment_in c.entries))
  aligned-back s p =
      knowing (fold latest 32) (entries-back k cap c.entries fits.entries p) (sure_entries_say k s cap _ p) (λ es says e. same-alignment k s es c.entries 32 e says)

  -- the last tests, and what is told
  told_back : {s : List ℕ} (es : List Entry) (ts : List Tensor) (u : ℕ) → u ≡ length (header_bytes k c) → map (flagged_entry_of k s) es ≡ map flagged_entry c.entries
      → fold latest 32 es ≡ alignment_in c.entries → map (tensor_content s) ts ≡ c.tensors → Back s (summary_in s) (judged (start_in k c) es ts u) u [] (summary_of k c)
  told_back {s} es ts u at e a f =
      let fit : padded (fold latest 32 es) u ≤ greatest = rw (a, at) fits.start in
      let multiples : All (λ (t : Tensor). is_aligned (fold latest 32 es) t ≡ true) ts = rw a (aligned_too s (alignment_in c.entries) ts c.tensors f fits.aligned) in
      checked 18 u (le-leb _ _ fit) (checked-each (is_aligned (fold latest 32 es)) 16 offset_place ts multiples (nothing_more (rw (a, at, same_entries k s es c.entries e, f))))

  header-length : 0 + length (start_bytes (start_in k c)) + length (bytes_of_all (entry_bytes k) c.entries) + length (bytes_of_all (tensor_bytes k) c.tensors) ≡ length (header_bytes k c)
  unfolding header_bytes
  header-length = rw (length-append, length-append, zero-add)

  header-parts : start_bytes (start_in k c) ++ (bytes_of_all (entry_bytes k) c.entries ++ bytes_of_all (tensor_bytes k) c.tensors) ≡ header_bytes k c
  unfolding header_bytes
  header-parts = rw append_assoc

  parts-back : (s : List ℕ) → Back s (summary_in s) (header rooms cap) 0 (start_bytes (start_in k c) ++ (bytes_of_all (entry_bytes k) c.entries ++ bytes_of_all (tensor_bytes k) c.tensors)) (summary_of k c)
  unfolding header
  parts-back s =
      exactly _ (start_back 0) (follows (aligned-back s _) (λ es e. closing (tensors-back k c.tensors 0 fits.tensors _) (λ ts f. at_place _
      (told_back es ts _ header-length (ap (λ (x : Both (List FlaggedEntry) ℕ). x.first) e) (ap (λ (x : Both (List FlaggedEntry) ℕ). x.second) e) f))))

  -- where a header stands at the front of a file, it is read as it was written
  pub header-back : (s : List ℕ) → Back s (summary_in s) (header rooms cap) 0 (header_bytes k c) (summary_of k c)
  header-back s = subst (λ l. Back s (summary_in s) (header rooms cap) 0 l (summary_of k c)) header-parts (parts-back s)

-- the sheet of an answer, whatever its version, byte order and places
abbrev pub sheet_in : Answer Summary → Answer Contents
sheet_in (accepted t q) = accepted t.contents 0
sheet_in (refused n p) = refused n p

-- a header that was written reads back, whatever follows it
pub read_back : (rooms : Rooms) (cap : ℕ) (k : Dialect) (c : Contents) (r : List ℕ) → FitsContents rooms k c
    → seen (summary_in (header_bytes k c ++ r)) (run (header rooms cap) (header_bytes k c ++ r) 0) ≡ accepted (summary_of k c) (length (header_bytes k c))
read_back rooms cap k c r fits = (header-back rooms cap k c fits (header_bytes k c ++ r)).reads (stands-first (header_bytes k c) r) ∙ rw zero-add

-- the full reader reads it back, into tables that have a row for each record
pub reader_back : (cap : ℕ) (es ts : List (List ℕ)) (k : Dialect) (c : Contents) (r : List ℕ) → FitsContents (record { entries = length es; tensors = length ts }) k c
    → seen (summary_in (header_bytes k c ++ r)) (reader_run full cap es ts (header_bytes k c ++ r)) ≡ accepted (summary_of k c) (length (header_bytes k c))
reader_back cap es ts k c r fits = ap (seen (summary_in (header_bytes k c ++ r))) (full_reader cap es ts (header_bytes k c ++ r)) ∙ read_back _ cap k c r fits

-- headers that are written as the same bytes tell the same, whatever follows them
pub one-header : (rooms : Rooms) (k k' : Dialect) (c c' : Contents) (r r' : List ℕ) → FitsContents rooms k c → FitsContents rooms k' c' → header_bytes k c ++ r ≡ header_bytes k' c' ++ r'
    → summary_of k c ≡ summary_of k' c'
one-header rooms k k' c c' r r' fits fits' e =
    let equal : accepted (summary_of k c) (length (header_bytes k c)) ≡ accepted (summary_of k' c') (length (header_bytes k' c')) =
    sym (read_back rooms 0 k c r fits) ∙ ap (λ s. seen (summary_in s) (run (header rooms 0) s 0)) e ∙ read_back rooms 0 k' c' r' fits' in
    cc

-- a sheet reads back the same from every version and byte order
pub versions_agree : (rooms : Rooms) (cap : ℕ) (k k' : Dialect) (c : Contents) (r r' : List ℕ) → FitsContents rooms k c → FitsContents rooms k' c
    → sheet_in (seen (summary_in (header_bytes k c ++ r)) (run (header rooms cap) (header_bytes k c ++ r) 0)) ≡ sheet_in (seen (summary_in (header_bytes k' c ++ r')) (run (header rooms cap) (header_bytes k' c ++ r') 0))
versions_agree rooms cap k k' c r r' fits fits' = ap sheet_in (read_back rooms cap k c r fits) ∙ sym (ap sheet_in (read_back rooms cap k' c r' fits'))
