-- What more bytes may change of a lookup: nothing, once its answer is any other than refusal 1. The
-- header is read as before, and the bytes of its keys and strings are where they were. Assumes
-- nothing.
use Rattle.reading.specs.Replies.{Reply, refuses, reply_of}
use Rattle.std.specs.Prelude.{if◌then◌else◌, Option, Some, None}
use Prim.Native.Nat.{ℕ}
use mathlib.Core.Path.{◌≡◌, refl, sym, ap, subst, ◌∙◌}
use mathlib.Core.List.{List, [], ◌∷◌, ◌++◌}
use mathlib.Core.Bool.{Bool, true, false}
use native.Mathlib.Omega.{arith}
use lib.Dec.{T}
use lib.ListN.{length, get_or, length-append}
use Rattle.reading.specs.Back.{All}
use Rattle.reading.specs.Each.{fold}
use Rattle.reading.specs.Reading.{Answer, accepted, refused, run, seen, final}
use Rattle.reading.specs.Ceilings.{under, full}
use Rattle.reading.proofs.Onward.{all_so}
use Rattle.reading.proofs.RunLaws.{field-stays, stable, other_than-1}
use Rattle.values.specs.Contents.{bytes_at, inside_of}
use Rattle.values.specs.Format.{is_word}
use Rattle.values.specs.Spans.{EndsBy, ValueEndsBy, EntryEndsBy}
use Rattle.values.specs.declared.Dialect.{Dialect}
use Rattle.values.specs.declared.Entry.{Entry}
use Rattle.values.specs.declared.Span.{Span}
use Rattle.values.specs.declared.Value.{Value}
use Rattle.values.specs.declared.Value.TheVariants.{Single, Text, Array}
use Rattle.values.proofs.ValuesEnd.{text-there, entry_later}
use Rattle.start.specs.Format.{enough}
use Rattle.header.specs.Contents.{dialect_of}
use Rattle.header.specs.Format.{FullHeader, header}
use Rattle.header.proofs.SpansInside.{spans_within}
use Rattle.lookup.specs.Questions.{sought, lookup, string_in, string_of, string_status, file_type_in, file_type_key}

module _ (s t : List ℕ) where
  -- a text that ends within the bytes has the same bytes where more follow
  text-stays : (a : Span) → EndsBy (length s) a → inside_of (s ++ t) a ≡ inside_of s a
  text-stays a h =
      let longer : EndsBy (length (s ++ t)) a = rw length-append (omega arith) in
      text-there (s ++ t) a longer ∙ field-stays s t a.place a.len h ∙ sym (text-there s a h)

  value_stays : (k : Dialect) (v : Value) → ValueEndsBy k s (length s) v → string_in (s ++ t) v ≡ string_in s v
  value_stays k (Single x) h = refl
  value_stays k (Text a) h = text-stays a h
  value_stays k (Array a) h = refl

  -- so the last entry of a key among entries that end within the bytes is the same
  sought-stays : (key : List ℕ) (k : Dialect) (z : Option Entry) (es : List Entry) → All (EntryEndsBy k s (length s)) es → fold (sought key (s ++ t)) z es ≡ fold (sought key s) z es
  sought-stays key k z [] h = refl
  sought-stays key k z (e ∷ es) h =
      ap (λ b. fold (sought key (s ++ t)) (if is_word key b then Some e else z) es) (field-stays s t e.key.place e.key.len h.0.key) ∙ sought-stays key k (sought key s z e) es h.1

  -- and so is its string
  abbrev Same : Option Entry → Type 0
  Same (Some e) = string_in (s ++ t) e.value ≡ string_in s e.value
  Same None = Unit {0}

  chosen : (b : Bool) (e : Entry) (z : Option Entry) → Same (Some e) → Same z → Same (if b then Some e else z)
  chosen true e z h g = h
  chosen false e z h g = g

  found-same : (key : List ℕ) (k : Dialect) (z : Option Entry) (es : List Entry) → Same z → All (EntryEndsBy k s (length s)) es → Same (fold (sought key s) z es)
  found-same key k z [] g h = g
  found-same key k z (e ∷ es) g h =
      found-same key k (sought key s z e) es (chosen (is_word key (bytes_at s e.key)) e z (value_stays k e.value h.0.value) g) h.1

-- the run that every lookup is made of
abbrev reading : List ℕ → Answer FullHeader
reading s = run (under full (header enough 3)) s 0

-- the last entry of a key in a header
abbrev last_in : List ℕ → List ℕ → FullHeader → Option Entry
last_in key s w = fold (sought key s) None w.entries

-- where the header was accepted its entries end within the bytes
ends : (s : List ℕ) {w : FullHeader} {q : ℕ} → accepted w q ≡ reading s → All (EntryEndsBy (dialect_of w) s (length s)) w.entries
ends s {w} e =
    let h = spans_within full enough 3 s e in
    all_so (entry_later (dialect_of w) s w.head.end (length s) h.end) w.entries h.entries

-- what a lookup makes of a header, read with bytes s
abbrev made : List ℕ → List ℕ → Answer FullHeader → Reply (Option Entry)
made key s r = reply_of (seen (last_in key s) r)

module _ (key s t : List ℕ) where
  -- the same header is read where more bytes follow
  again : (r : Answer FullHeader) → r ≡ reading s → T (final r) → reading (s ++ t) ≡ r
  again r e sure = stable (under full (header enough 3)) s t 0 (subst (λ x. T (final x)) e sure) ∙ sym e

  answer-by : (r : Answer FullHeader) → r ≡ reading s → ((p : ℕ) → made key s r ≡ refuses 1 p → ⊥) → lookup key (s ++ t) ≡ made key s r
  unfolding seen
  answer-by (accepted w q) e other =
      ap (made key (s ++ t)) (again (accepted w q) e tt) ∙ ap (λ z. reply_of (accepted z q)) (sought-stays s t key (dialect_of w) None w.entries (ends s e))
  answer-by (refused n p) e other =
      ap (made key (s ++ t)) (again (refused n p) e (other_than-1 {A = FullHeader} (refused n p) refl (λ one. other p (ap (λ m. refuses m p) one))))

  string-of : (z : Option Entry) (q : ℕ) → Same s t z → string_of (s ++ t) (reply_of (accepted z q)) ≡ string_of s (reply_of (accepted z q))
  string-of (Some e) q same = same
  string-of None q same = refl

  string-by : (r : Answer FullHeader) → r ≡ reading s → string_of (s ++ t) (made key s r) ≡ string_of s (made key s r)
  unfolding seen
  string-by (accepted w q) e = string-of (last_in key s w) q (found-same s t key (dialect_of w) None w.entries tt (ends s e))
  string-by (refused n p) e = refl

  -- `find`: the entry, 'absent', or a refusal other than 1, is the same
  pub lookup-stays : ((p : ℕ) → lookup key s ≡ refuses 1 p → ⊥) → lookup key (s ++ t) ≡ lookup key s
  lookup-stays other = answer-by (reading s) refl other

  -- `find_string`, and `model_family` with its key: where the status is no refusal 1, the string is
  -- the same, and so is the status
  pub string-stays : (get_or (string_status (lookup key s)) 0 0 ≡ 1 → ⊥)
      → (string_of (s ++ t) (lookup key (s ++ t)) ≡ string_of s (lookup key s)) × (string_status (lookup key (s ++ t)) ≡ string_status (lookup key s))
  string-stays other =
      let same = lookup-stays (λ p e. other (ap (λ l. get_or (string_status l) 0 0) e)) in
      (ap (string_of (s ++ t)) same ∙ string-by (reading s) refl, ap string_status same)

-- `file_type`: the type, that it is unknown, or a refusal other than 1, is the same
pub type-stays : (s t : List ℕ) → ((p : ℕ) → file_type_in (lookup file_type_key s) ≡ refuses 1 p → ⊥) → file_type_in (lookup file_type_key (s ++ t)) ≡ file_type_in (lookup file_type_key s)
type-stays s t other = ap file_type_in (lookup-stays file_type_key s t (λ p e. other p (ap file_type_in e)))
