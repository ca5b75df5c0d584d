-- Whoever indexes the bytes by a row can't leave them: what a row points at was read before the
-- header's end. Assumes nothing.
use Prim.Native.Nat.{ℕ, ◌+◌, ◌≤◌}
use mathlib.Core.Path.{◌≡◌, refl, sym, subst, ◌∙◌}
use mathlib.Core.List.{List, ◌∷◌, map}
use native.Mathlib.Omega.{arith}
use lib.ListN.{length, drop, length-map}
use lib.Seq.{take_at}
use Rattle.reading.specs.Back.{All, Sure}
use Rattle.reading.specs.Each.{each}
use Rattle.reading.specs.Reading.{accepted, run, seen}
use Rattle.reading.specs.Ceilings.{under}
use Rattle.reading.specs.declared.Limits.{Limits}
use Rattle.reading.proofs.Onward.{onward, all_so}
use Rattle.reading.proofs.Repetition.{seen-accepted}
use Rattle.reading.proofs.RunLaws.{inside}
use Rattle.reading.proofs.SureLaws.{sure_then, sure_here, sure_run, sure_under, all_map, whatever}
use Rattle.rows.specs.Columns.{place_in, length_in}
use Rattle.scalars.specs.Scalars.{scalar_type}
use Rattle.scalars.specs.declared.Scalar.{Scalar}
use Rattle.scalars.specs.declared.Scalar.TheVariants.{U8, I8, U16, I16, U32, I32, F32, Bool as Truth, U64, I64, F64}
use Rattle.values.specs.Contents.{bytes_at, inside_of}
use Rattle.values.specs.Rows.{value_words, entry_row}
use Rattle.values.specs.Spans.{EndsBy, ValueEndsBy, EntryEndsBy}
use Rattle.values.specs.declared.Dialect.{Dialect}
use Rattle.values.specs.declared.Entry.{Entry}
use Rattle.values.specs.declared.Span.{Span}
use Rattle.values.specs.declared.Value.{Value}
use Rattle.values.specs.declared.Value.TheVariants.{Single, Text, Array}
use Rattle.values.proofs.ValuesEnd.{text-there, entry_later, entries-end}
use Rattle.tensors.specs.Format.{tensor, total_of}
use Rattle.tensors.specs.declared.Tensor.{Tensor}
use Rattle.tensors.proofs.TensorsEnd.{tensors-end, name-before}
use Rattle.start.specs.declared.Rooms.{Rooms}
use Rattle.header.specs.declared.Header.{Header}
use Rattle.header.specs.Answers.{reader_run, outcome_of, reader_outcome}
use Rattle.header.specs.Contents.{dialect_of}
use Rattle.header.specs.Format.{FullHeader, header}
use Rattle.header.specs.Spans.{SpansInside, EntryRowEndsBy, RowsInside}
use Rattle.header.proofs.Counted.{Counted, counted}
use Rattle.header.proofs.Judged.{sure_judged}
use Rattle.header.proofs.TableRows.{rows_hold}

-- the records end where the header does
header-ends : (rooms : Rooms) (cap : ℕ) (s : List ℕ) → Sure s (header rooms cap) 0 (λ w q. (q ≡ w.head.end) × All (EntryEndsBy (dialect_of w) s q) w.entries × All (λ (t : Tensor). EndsBy q t.name) w.tensors)
unfolding header
header-ends rooms cap s =
    sure_then whatever (λ c p u. sure_then (entries-end c.dialect s cap c.entries p) (λ es q h. sure_then (sure_run (tensors-end c.dialect s c.tensors 0 q)) (λ ts e g.
    let up : q ≤ e = onward (each (tensor c.dialect) total_of c.tensors 0) s q g.1 in
    sure_here _ (sure_judged c es ts e (λ tested. (refl, all_so (entry_later c.dialect s q e up) es h, all_so (name-before e) ts g.0))))))

-- whatever a reader accepts, with any ceilings, rooms and cap: what it points at ends at or before
-- the header's end, which is within the bytes
pub spans_within : (limits : Limits) (rooms : Rooms) (cap : ℕ) (s : List ℕ) {w : FullHeader} {q : ℕ} → accepted w q ≡ run (under limits (header rooms cap)) s 0 → SpansInside s w
spans_within limits rooms cap s {w} {q} read =
    let h = (sure_under limits (header-ends rooms cap s)).holds w q read in
    let e : q ≡ w.head.end = h.0 in
    let i = inside (under limits (header rooms cap)) s 0 read in
    record { end = omega (arith, i, e); entries = subst (λ x. All (EntryEndsBy (dialect_of w) s x) w.entries) e h.1; tensors = subst (λ x. All (λ (t : Tensor). EndsBy x t.name) w.tensors) e h.2 }

-- so with any tables
pub spans_inside : (limits : Limits) (cap : ℕ) (es ts : List (List ℕ)) (s : List ℕ) {w : FullHeader} {q : ℕ} → accepted w q ≡ reader_run limits cap es ts s → SpansInside s w
spans_inside limits cap es ts s read = spans_within limits (record { entries = length es; tensors = length ts }) cap s read

-- so the bytes of each text are there: the fallback to none is never taken
module _ {s : List ℕ} {w : FullHeader} (h : SpansInside s w) where
  pub span-there : (a : Span) → EndsBy w.head.end a → inside_of s a ≡ bytes_at s a
  span-there a g = text-there s a (omega (arith, h.end))

  -- of each key
  pub keys_there : All (λ (e : Entry). inside_of s e.key ≡ bytes_at s e.key) w.entries
  keys_there = all_so (λ e g. span-there e.key g.key) w.entries h.entries

  -- of each name
  pub names_there : All (λ (t : Tensor). inside_of s t.name ≡ bytes_at s t.name) w.tensors
  names_there = all_so (λ t g. span-there t.name g) w.tensors h.tensors

-- of a value that is a string
abbrev pub TextThere : List ℕ → Value → Type 0
TextThere s (Single x) = Unit {0}
TextThere s (Text a) = inside_of s a ≡ bytes_at s a
TextThere s (Array a) = Unit {0}

value_there : (k : Dialect) (s : List ℕ) (e : ℕ) → e ≤ length s → (v : Value) → ValueEndsBy k s e v → TextThere s v
value_there k s e low (Single x) h = tt
value_there k s e low (Text a) h = text-there s a (omega arith)
value_there k s e low (Array a) h = tt

pub texts_there : {s : List ℕ} {w : FullHeader} → SpansInside s w → All (λ (e : Entry). TextThere s e.value) w.entries
texts_there {s} {w} h = all_so (λ e g. value_there (dialect_of w) s w.head.end h.end e.value g.value) w.entries h.entries

-- no scalar's type is a text's or an array's
scalar-other : (x : Scalar) → (scalar_type x ≡ 8 → ⊥) × (scalar_type x ≡ 9 → ⊥)
scalar-other (U8 x) = (λ e. omega arith, λ e. omega arith)
scalar-other (I8 x) = (λ e. omega arith, λ e. omega arith)
scalar-other (U16 x) = (λ e. omega arith, λ e. omega arith)
scalar-other (I16 x) = (λ e. omega arith, λ e. omega arith)
scalar-other (U32 x) = (λ e. omega arith, λ e. omega arith)
scalar-other (I32 x) = (λ e. omega arith, λ e. omega arith)
scalar-other (F32 x) = (λ e. omega arith, λ e. omega arith)
scalar-other (Truth x) = (λ e. omega arith, λ e. omega arith)
scalar-other (U64 x) = (λ e. omega arith, λ e. omega arith)
scalar-other (I64 x) = (λ e. omega arith, λ e. omega arith)
scalar-other (F64 x) = (λ e. omega arith, λ e. omega arith)

-- the row of an entry
value_row : (k : Dialect) (s : List ℕ) (e p n : ℕ) (v : Value) → p + n ≤ e → ValueEndsBy k s e v → EntryRowEndsBy e (p ∷ n ∷ value_words v)
value_row k s e p n (Single x) key h = record { key = key; text = λ t. absurd ((scalar-other x).0 t); items = λ t. absurd ((scalar-other x).1 t) }
value_row k s e p n (Text a) key h = record { key = key; text = λ t. h; items = λ t. absurd (omega arith) }
value_row k s e p n (Array a) key h = record { key = key; text = λ t. absurd (omega arith); items = λ t. omega (arith, h.onward, h.inside) }

rows_of : (es ts : List (List ℕ)) (s : List ℕ) (w : FullHeader) (q : ℕ) → SpansInside s w → Counted (record { entries = length es; tensors = length ts }) w → RowsInside s w.head (outcome_of es ts (accepted w q))
unfolding seen
rows_of es ts s w q h c = record {
  end = h.end;
  entries =
      rw (take_at (map entry_row w.entries) (drop (length w.entries) es) w.head.entries (length-map w.entries entry_row ∙ c.entries))
      (all_map (EntryRowEndsBy w.head.end) entry_row (λ e g. value_row (dialect_of w) s w.head.end e.key.place e.key.len e.value g.key g.value) w.entries h.entries);
  tensors = rows_hold (λ row. place_in row + length_in row ≤ w.head.end) es ts w q h.tensors c;
}

-- the same, of the rows that a reader's caller has: where the answer is a header h, what the rows
-- of both tables point at ends at or before the header's end
pub rows_inside : (limits : Limits) (cap : ℕ) (es ts : List (List ℕ)) (s : List ℕ) {h : Header} {q : ℕ} → accepted h q ≡ (reader_outcome limits cap es ts s).answer
    → RowsInside s h (reader_outcome limits cap es ts s)
rows_inside limits cap es ts s {h} {q} told =
    let w = seen-accepted _ _ _ _ told in
    subst (λ x. RowsInside s x (reader_outcome limits cap es ts s)) (sym w.2)
    (subst (λ r. RowsInside s w.0.head (outcome_of es ts r)) w.1 (rows_of es ts s w.0 q (spans_inside limits cap es ts s w.1) (counted limits cap es ts s w.1)))
