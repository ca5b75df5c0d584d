-- The keys of a header that was written ascend strictly, the added one in its place. Assumes
-- nothing.
use Rattle.writer.specs.Output.{written_at}
use Rattle.std.specs.Prelude.{if◌then◌else◌}
use Prim.Native.Nat.{ℕ}
use mathlib.Core.Path.{◌≡◌, refl, sym, ap, subst}
use mathlib.Core.Bool.{Bool, true, false}
use mathlib.Core.List.{List, [], ◌∷◌, map}
use lib.ListN.{length}
use Rattle.reading.specs.Back.{All}
use Rattle.fields.specs.Order.{before}
use Rattle.fields.proofs.Before.{clash, neither}
use Rattle.reading.proofs.SureLaws.{all_map}
use Rattle.values.specs.declared.Dialect.{Dialect}
use Rattle.values.specs.Format.{is_word, alignment_key}
use Rattle.values.specs.Contents.{EntryContent}
use Rattle.sheet.specs.Format.{SheetEntry}
use Rattle.sheet.proofs.WholeSheet.{Ascending, sheet_ascending}
use Rattle.plan.specs.Header.{own_alignment, adds, alignment_entry, inserted, entry_in, entries_with, entries_of, header_contents, records_in}
use Rattle.writer.proofs.Planned.{planned-by}
use Rattle.promises.specs.Back.{answer_for, contents_for}
use Rattle.promises.proofs.AlignmentKept.{none_said, was_absent}
use Rattle.promises.proofs.WrittenReadsBack.{wrote-plan}

-- a key that is not the alignment's
abbrev Other : EntryContent → Type 0
Other e = is_word alignment_key e.key ≡ false

-- and does not come after that one comes before it
other-before : (key : List ℕ) → is_word alignment_key key ≡ false → before alignment_key key ≡ false → before key alignment_key ≡ true
other-before key other e = by (before key alignment_key) refl
  where
    by : (b : Bool) → before key alignment_key ≡ b → before key alignment_key ≡ true
    by true f = f
    by false f = clash (subst (λ l. is_word alignment_key l ≡ true) (neither alignment_key key e f) refl) other

abbrev key_in : EntryContent → List ℕ
key_in e = e.key

-- after a key that comes before it
inserted-after : (a : ℕ) (key : List ℕ) (es : List EntryContent) → before key alignment_key ≡ true → All Other es → Ascending (key ∷ map key_in es) → Ascending (key ∷ map key_in (inserted a es))
inserted-after a key [] h others up = (h, tt)
inserted-after a key (e ∷ es) h others up = by (before alignment_key e.key) refl (λ g. inserted-after a e.key es g others.1 up.1)
  where
    by : (b : Bool) → before alignment_key e.key ≡ b → (before e.key alignment_key ≡ true → Ascending (e.key ∷ map key_in (inserted a es)))
        → Ascending (key ∷ map key_in (if b then alignment_entry a ∷ e ∷ es else e ∷ inserted a es))
    by true i next = (h, (i, up.1))
    by false i next = (up.0, next (other-before e.key others.0 i))

inserted-ascends : (a : ℕ) (es : List EntryContent) → All Other es → Ascending (map key_in es) → Ascending (map key_in (inserted a es))
inserted-ascends a [] others up = tt
inserted-ascends a (e ∷ es) others up = by (before alignment_key e.key) refl
  where
    by : (b : Bool) → before alignment_key e.key ≡ b → Ascending (map key_in (if b then alignment_entry a ∷ e ∷ es else e ∷ inserted a es))
    by true i = (i, up)
    by false i = inserted-after a e.key es (other-before e.key others.0 i) others.1 up

same_keys : (es : List SheetEntry) → map key_in (map entry_in es) ≡ map (λ (e : SheetEntry). e.content.key) es
same_keys [] = refl
same_keys (e ∷ es) = ap (λ l. e.content.key ∷ l) (same_keys es)

entries_ascend : (a : ℕ) (es : List SheetEntry) → Ascending (map (λ (e : SheetEntry). e.content.key) es) → Ascending (map key_in (entries_of a es))
entries_ascend a es up = by (adds a (own_alignment es)) refl
  where
    own : Ascending (map key_in (map entry_in es))
    own = subst Ascending (sym (same_keys es)) up

    by : (b : Bool) → adds a (own_alignment es) ≡ b → Ascending (map key_in (entries_with b a es))
    by true e = inserted-ascends a (map entry_in es) (all_map Other entry_in (λ l h. h) es (none_said es (was_absent a (own_alignment es) e))) own
    by false e = own

-- for any record sheet, version, byte order, alignment and output
pub keys_ascend : (k : Dialect) (a : ℕ) (s out : List ℕ) {end start : ℕ} → written_at end start ≡ answer_for k a s out → Ascending (map (λ (e : EntryContent). e.key) (contents_for a s).entries)
keys_ascend k a s out wrote =
    let w = wrote-plan k a s out wrote in
    let p = planned-by k a (length out) s w.fine in
    subst (λ r. Ascending (map key_in (header_contents a (records_in r)).entries)) p.is (entries_ascend a p.records.entries (sheet_ascending s p.is))
