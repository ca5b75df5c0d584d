-- Every refusal of the writer, of the layout and of the range check is one of those listed, at one
-- of its places: each test refuses so, or leaves it to those after it. Assumes nothing.
use Rattle.plan.specs.declared.Plan.{Plan}
use Rattle.reading.specs.Replies.{Reply, gives, refuses}
use Rattle.std.specs.Prelude.{if◌then◌else◌, Result, Ok, Err}
use Prim.Native.Nat.{ℕ, zero, suc, ◌+◌, ◌^◌, ◌≤◌, ◌<◌, max}
use mathlib.Core.Path.{◌≡◌, refl, subst}
use mathlib.Core.Bool.{Bool, true, false}
use mathlib.Core.List.{List, [], ◌∷◌, map}
use native.Mathlib.Omega.{arith}
use borrow.Author.Tests.{ltb-true, leb-false, eqb-false}
use lib.Dec.{leb, eqb}
use lib.ListN.{length, get_or, length-map}
use Rattle.fields.specs.Bytes.{little, bytes_of}
use Rattle.fields.specs.Value.{number}
use Rattle.reading.specs.Back.{bytes_of_all, Sure}
use Rattle.reading.specs.Choice.{require}
use Rattle.reading.specs.Each.{each, times}
use Rattle.reading.specs.Reading.{Reading, Answer, accepted, refused, run, here, and_then, ◌>>=◌}
use Rattle.reading.proofs.SureLaws.{sure_then, sure_done}
use Rattle.kinds.specs.Table.{block_of, written_kind}
use Rattle.kinds.specs.Shape.{greatest, first_length, whole_blocks, product_of, products_fit, size_within}
use Rattle.layout.specs.Padding.{padded}
use Rattle.layout.specs.Layout.{Piece, Layout, laid_out_from, refused_at, ahead, followed_by, end_after, place_of, layout_from, layout_of, nothing_laid}
use Rattle.layout.specs.declared.Laid.{Laid}
use Rattle.layout.specs.declared.Placed.{Placed}
use Rattle.scalars.specs.Scalars.{scalar_width}
use Rattle.tensors.specs.Format.{length_at, lengths_of}
use Rattle.values.specs.declared.Dialect.{Dialect}
use Rattle.values.specs.Contents.{size_bytes}
use Rattle.start.specs.Contents.{start_bytes}
use Rattle.start.specs.Format.{known_dialect}
use Rattle.header.specs.Contents.{header_bytes}
use Rattle.header.specs.Format.{is_alignment_lem}
use Rattle.ranges.specs.Ranges.{check_from}
use Rattle.ranges.proofs.Meaning.{refused-first}
use Rattle.sheet.specs.Format.{bytes, text_of, text, scalar, value, opening, framed, entry_body, metadata, shape, tensor_body, tensor}
use Rattle.sheet.specs.Sheet.{consed, as_many_as, no_key, next, key_of, is_metadata, goes_on_with, entries_from, tensors_from, Records, sheet_of}
use Rattle.sheet.proofs.ManyEntries.{tag_inside}
use Rattle.sheet.proofs.PartsFound.{entry-ends}
use Rattle.sheet.proofs.WholeSheet.{tensor-on, sheet_entries, sheet_tensors, sheet_ended}
use Rattle.plan.specs.Header.{own_alignment, adds, entries_of, piece_of, records_in, start_of}
use Rattle.plan.specs.Plan.{require_formed, require_laid, can_add, agrees, laid_of, counts_fit, plan_for}
use Rattle.plan.specs.Steps.{aligned}
use Rattle.plan.proofs.Drafts.{entries-count}
use Rattle.writer.specs.Output.{written_of}
use Rattle.promises.specs.Back.{answer_for}
use Rattle.reading.proofs.RefusalLaws.{listed_too}
use Rattle.promises.specs.Refusals.{layout_refusals, layout_refusal, writer_refusals, writer_refusal, places_of, Listed, Given}

-- what holds of a test's refusal, where the test fails, and of what follows it holds of both
by-test : {A : Type 0} (P : A → Type 0) (t : Bool) (refusal rest : A) → (t ≡ false → P refusal) → P rest → P (require t refusal rest)
by-test P true refusal rest h others = others
by-test P false refusal rest h others = h refl

-- The layout.

-- a place, or a listed refusal
abbrev ListedPlace : Result Placed ℕ → Type 0
ListedPlace (Ok x) = Unit {0}
ListedPlace (Err n) = layout_refusal n ≡ true

place-listed : (a : ℕ) (laid : Laid) (shape : List ℕ) (kind : ℕ) → ListedPlace (place_of a laid shape kind)
unfolding place_of
place-listed a laid shape kind =
    by-test ListedPlace (written_kind kind) _ _ (λ t. refl)
    (by-test ListedPlace (whole_blocks (first_length shape) kind) _ _ (λ t. refl)
    (by-test ListedPlace (products_fit shape) _ _ (λ t. refl)
    (by-test ListedPlace (size_within shape kind) _ _ (λ t. refl)
    (by-test ListedPlace (leb (laid.total + product_of shape) greatest) _ _ (λ t. refl)
    (by-test ListedPlace (leb (end_after laid shape kind) greatest) _ _ (λ t. refl)
    (by-test ListedPlace (leb (padded a (end_after laid shape kind)) greatest) _ _ (λ t. refl) tt))))))

-- offsets, or a listed refusal of a tensor below e
abbrev ListedLayout : ℕ → Layout → Type 0
ListedLayout e (laid_out_from offsets laid) = Unit {0}
ListedLayout e (refused_at n i) = (layout_refusal n ≡ true) × (i < e)

ahead-listed : (e offset : ℕ) (l : Layout) → ListedLayout e l → ListedLayout e (ahead offset l)
ahead-listed e offset (laid_out_from offsets laid) h = tt
ahead-listed e offset (refused_at n i) h = h

followed-listed : (e i : ℕ) (p : Result Placed ℕ) (rest : Laid → Layout) → i < e → ListedPlace p → ((laid : Laid) → ListedLayout e (rest laid)) → ListedLayout e (followed_by p i rest)
followed-listed e i (Ok x) rest low h others = ahead-listed e x.offset (rest x.laid) (others x.laid)
followed-listed e i (Err n) rest low h others = (h, low)

from_listed : (a : ℕ) (laid : Laid) (e i : ℕ) (pieces : List Piece) → i + length pieces ≤ e → ListedLayout e (layout_from a laid i pieces)
unfolding layout_from
from_listed a laid e i [] fits = tt
from_listed a laid e i (p ∷ pieces) fits =
    followed-listed e i (place_of a laid p.lengths p.kind) (λ after. layout_from a after (suc i) pieces) (omega arith) (place-listed a laid p.lengths p.kind)
    (λ after. from_listed a after e (suc i) pieces (omega arith))

-- for any alignment and any tensors: the refusal is 35, 17, 13, 14, 15 or 36, and its place the
-- number of one of them
pub layout_refusals_listed : (a : ℕ) (pieces : List Piece) {n i : ℕ} → layout_of a pieces ≡ refused_at n i → (layout_refusal n ≡ true) × (i < length pieces)
layout_refusals_listed a pieces h = subst (ListedLayout (length pieces)) h (from_listed a nothing_laid (length pieces) 0 pieces (omega arith))

-- The range check.

-- for any start, any file and any rows: the refusal is 20, and its place the number of one of them
pub range_refusals_listed : (start file : ℕ) (rows : List (List ℕ)) {n i : ℕ} → check_from start file 0 rows ≡ refuses n i → (n ≡ 20) × (i < length rows)
range_refusals_listed start file rows {n} {i} h = let f = refused-first start file rows n i h in (f.0, f.1.there)

-- The sheet.

-- records, or a refusal at a place up to e
abbrev UpTo : {A : Type 0} → ℕ → Answer A → Type 0
UpTo e (accepted a q) = Unit {0}
UpTo e (refused n p) = p ≤ e

then_up_to : {A B : Type 0} (e : ℕ) (r : Answer A) (f : A → ℕ → Answer B) → UpTo e r → ((a : A) (q : ℕ) → UpTo e (f a q)) → UpTo e (and_then r f)
unfolding and_then
then_up_to e (accepted a q) f h rest = rest a q
then_up_to e (refused n p) f h rest = h

consed_up_to : {A : Type 0} (e p : ℕ) (r : Answer A) (others : A → ℕ → Answer (List A)) → p ≤ e → ((a : A) (q : ℕ) → UpTo e (others a q)) → UpTo e (consed r p others)
consed_up_to e p (accepted a q) others low rest = then_up_to e (others a q) (λ l o. accepted (a ∷ l) o) (rest a q) (λ l o. tt)
consed_up_to e p (refused n o) others low rest = low

-- entries that begin inside the sheet are refused inside it
many_up_to : {S A : Type 0} (more : List ℕ → ℕ → Bool) (m : S → Reading A) (f : S → A → S) (s : List ℕ) → ((p : ℕ) → more s p ≡ true → p < length s)
    → (turns : ℕ) (z : S) (p : ℕ) → UpTo (length s) (as_many_as more m f turns z s p)
unfolding as_many_as
many_up_to more m f s inside zero z p = tt
many_up_to {A = A} more m f s inside (suc turns) z p = by (more s p) refl (λ a q. many_up_to more m f s inside turns (f z a) q)
  where
    by : (b : Bool) → more s p ≡ b → ((a : A) (q : ℕ) → UpTo (length s) (as_many_as more m f turns (f z a) s q))
        → UpTo (length s) (if b then consed (run (m z) s p) p (λ a q. as_many_as more m f turns (f z a) s q) else accepted [] p)
    by true h rest = let low = inside p h in consed_up_to (length s) p (run (m z) s p) (λ a q. as_many_as more m f turns (f z a) s q) (omega arith) rest
    by false h rest = tt

sheet_up_to : (s : List ℕ) → UpTo (length s) (sheet_of s)
unfolding sheet_of entries_from tensors_from
sheet_up_to s =
    by-test (UpTo (length s)) (eqb (get_or s 0 0) 1) _ _ (λ t. omega arith)
    (then_up_to (length s) (entries_from s 1) _ (many_up_to is_metadata next key_of s (tag_inside s) (length s) no_key 1)
    (λ es q. then_up_to (length s) (tensors_from s q) _ (many_up_to {S = Unit {0}} goes_on_with (λ z. tensor) (λ z a. z) s (λ p h. ltb-true _ _ h) (length s) tt q) (λ ts e. tt)))

-- How many bytes a sheet has.

-- each of what takes some bytes takes one at least
each_takes : {A : Type 0} (m : Reading A) (s : List ℕ) → ((p : ℕ) → Sure s m p (λ a q. p < q)) → (n p : ℕ) → Sure s (times n m) p (λ l q. p + n ≤ q)
unfolding each
each_takes m s one zero p = sure_done (omega arith)
each_takes m s one (suc n) p = sure_then (one p) (λ a q h. sure_then (each_takes m s one n q) (λ l r g. sure_done (omega arith)))

-- so a sheet has more bytes than records
records-short : (s : List ℕ) {c : Records} {e : ℕ} → accepted c e ≡ sheet_of s → 1 + length c.entries + length c.tensors ≤ length s
records-short s {c} {e} h =
    let entries : 1 + length c.entries ≤ c.first =
    (each_takes metadata s (λ p. record { holds = λ a q r. (entry-ends s p r).0 }) (length c.entries) 1).holds c.entries c.first (sheet_entries s h) in
    let tensors : c.first + length c.tensors ≤ e = (each_takes tensor s (tensor-on s) (length c.tensors) c.first).holds c.tensors e (sheet_tensors s h) in
    let end : e ≡ length s = sheet_ended s h in
    omega arith

-- a count that does not fit is above 2 ^ 32 - 1
count-over : (k : Dialect) (n m : ℕ) → counts_fit k n m ≡ false → 4294967295 < max n m
count-over k n m h = by (eqb k.version 1) h
  where
    by : (b : Bool) → (if b then leb (max n m) 4294967295 else true) ≡ false → 4294967295 < max n m
    by true e = leb-false (max n m) 4294967295 e
    by false e = let z : ◌≡◌ {A = ℕ} 0 1 = cc in absurd (omega arith)

one_at_most : (b : Bool) → (if b then 1 else 0) ≤ 1
one_at_most true = omega arith
one_at_most false = omega arith

sheet_over : (k : Dialect) (a : ℕ) (s : List ℕ) {c : Records} {e : ℕ} → accepted c e ≡ sheet_of s → counts_fit k (length (entries_of a c.entries)) (length c.tensors) ≡ false → 2 ^ 32 ≤ length s
sheet_over k a s {c} h over =
    let short = records-short s h in
    let big = count-over k (length (entries_of a c.entries)) (length c.tensors) over in
    let same = entries-count a c.entries in
    let one = one_at_most (adds a (own_alignment c.entries)) in
    omega arith

-- The writer.

-- a refusal of the layout is one of the writer
laid-number : (n : ℕ) → layout_refusal n ≡ true → writer_refusal n ≡ true
laid-number n h = listed_too n layout_refusals writer_refusals refl h

-- a plan, or a listed refusal, for a sheet of so many bytes and tensors
abbrev ListedPlan : ℕ → ℕ → Reply Plan → Type 0
ListedPlan bytes tensors (gives plan) = Unit {0}
ListedPlan bytes tensors (refuses n p) = Listed bytes tensors n p

-- a refusal that has the place 0 alone, and is not 37
at_zero : (bytes tensors n : ℕ) → writer_refusal n ≡ true → places_of bytes tensors n ≡ 1 → eqb n 37 ≡ false → Listed bytes tensors n 0
at_zero bytes tensors n number places other =
    record { number = number; place = rw places (omega arith); long = λ e. absurd (eqb-false n 37 other e) }

laid-listed : (bytes tensors : ℕ) (l : Layout) (rest : Reply Plan) → ListedLayout tensors l → ListedPlan bytes tensors rest → ListedPlan bytes tensors (require_laid (laid_of l) rest)
laid-listed bytes tensors (laid_out_from offsets laid) rest h others = others
laid-listed bytes tensors (refused_at n i) rest h others =
    let never : n ≡ 37 → ⊥ = λ e. let z : layout_refusal 37 ≡ true = subst (λ m. layout_refusal m ≡ true) e h.0 in let y : ◌≡◌ {A = ℕ} 0 1 = cc in omega arith in
    record { number = laid-number n h.0; place = rw h.0 h.1; long = λ e. absurd (never e) }

-- what follows of a sheet, well formed or not
formed-listed : (k : Dialect) (a room : ℕ) (s : List ℕ) (r : Answer Records) → r ≡ sheet_of s → UpTo (length s) r
    → ListedPlan (length s) (length (records_in r).tensors) (require_formed r 31 (aligned k a room))
formed-listed k a room s (refused n p) is h = record { number = refl; place = omega arith; long = λ e. absurd (omega arith) }
formed-listed k a room s (accepted c e) is h =
    let bytes : ℕ = length s in
    let tensors : ℕ = length c.tensors in
    let P : Reply Plan → Type 0 = ListedPlan (length s) (length c.tensors) in
    let same : 0 + length (map piece_of c.tensors) ≤ length c.tensors = omega (arith, length-map c.tensors piece_of) in
    by-test P (is_alignment_lem a) _ _ (λ t. at_zero bytes tensors 32 refl refl refl)
    (by-test P (can_add a (own_alignment c.entries)) _ _ (λ t. at_zero bytes tensors 33 refl refl refl)
    (by-test P (agrees a (own_alignment c.entries)) _ _ (λ t. at_zero bytes tensors 34 refl refl refl)
    (laid-listed bytes tensors (layout_of a (map piece_of c.tensors)) _ (from_listed a nothing_laid tensors 0 (map piece_of c.tensors) same)
    (by-test P (counts_fit k (length (entries_of a c.entries)) (length c.tensors)) _ _ (λ t. record { number = refl; place = omega arith; long = λ i. sheet_over k a s is t })
    (by-test P (leb (start_of k a c) room) _ _ (λ t. at_zero bytes tensors 38 refl refl refl) tt)))))

plan-listed : (k : Dialect) (a room : ℕ) (s : List ℕ) → ListedPlan (length s) (length (records_in (sheet_of s)).tensors) (plan_for k a room s)
unfolding plan_for
plan-listed k a room s =
    by-test (ListedPlan (length s) (length (records_in (sheet_of s)).tensors)) (known_dialect k) _ _ (λ t. at_zero _ _ 30 refl refl refl)
    (formed-listed k a room s (sheet_of s) refl (sheet_up_to s))

refused-plan : (bytes tensors : ℕ) (p : Reply Plan) {n i : ℕ} → written_of p ≡ refuses n i → ListedPlan bytes tensors p → Listed bytes tensors n i
refused-plan bytes tensors (gives plan) e h = let z : ◌≡◌ {A = ℕ} 0 1 = cc in absurd (omega arith)
refused-plan bytes tensors (refuses m j) {n} {i} e h =
    let same : m ≡ n = cc in
    let at : j ≡ i = cc in
    rw (← same, ← at) h

-- for any version, byte order, alignment, record sheet and output: the refusal is a listed one, at
-- one of its places, and 37 takes a sheet of 2 ^ 32 bytes
pub writer_refusals_listed : (k : Dialect) (a : ℕ) (s out : List ℕ) {n p : ℕ} → answer_for k a s out ≡ refuses n p → Listed (length s) (length (records_in (sheet_of s)).tensors) n p
writer_refusals_listed k a s out h = refused-plan _ _ (plan_for k a (length out) s) h (plan-listed k a (length out) s)

-- Each other number is given.

pub given : Given
unfolding run number here ◌>>=◌ and_then lengths_of length_at block_of place_of layout_from sheet_of entries_from tensors_from as_many_as text text_of bytes opening framed
    scalar scalar_width value entry_body metadata next shape tensor_body tensor plan_for header_bytes start_bytes size_bytes bytes_of little bytes_of_all
given = record {
  version = refl;
  contents = refl;
  alignment = refl;
  no_u32 = refl;
  other = refl;
  kind = refl;
  partial = refl;
  product = refl;
  size = refl;
  total = refl;
  end = refl;
  room = refl;
  laid-kind = refl;
  laid-partial = refl;
  laid-product = refl;
  laid-size = refl;
  laid-total = refl;
  laid_end = refl;
}
