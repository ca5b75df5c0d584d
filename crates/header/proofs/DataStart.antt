-- Where the data starts: refusal 18 is never the answer to a slice, since the start is at most the
-- alignment or twice the header's end. Assumes nothing.
use Rattle.std.specs.Prelude.{if◌then◌else◌, Option, Some, None}
use Prim.Native.Nat.{ℕ, ◌+◌, ◌-◌, ◌%◌, ◌^◌, ◌≤◌, ◌<◌, max}
use mathlib.Core.Path.{◌≡◌, refl, sym, ◌∙◌}
use mathlib.Core.List.{List, [], ◌∷◌}
use mathlib.Core.Bool.{Bool, true, false}
use native.Mathlib.Omega.{arith}
use native.Mathlib.Nat.{mod-eq_of_lt}
use lib.ListN.{length}
use lib.Dec.{leb, eqb, ltb}
use borrow.Author.Tests.{leb-true, leb-false, eqb-true, eqb-false}
use Rattle.reading.specs.Back.{All, Sure}
use Rattle.reading.specs.Ceilings.{full}
use Rattle.reading.specs.Each.{times, fold}
use Rattle.reading.specs.Reading.{Reading, accepted, refused, run}
use Rattle.reading.specs.Refusals.{Refuses}
use Rattle.reading.proofs.CeilingLaws.{low_run}
use Rattle.reading.proofs.SureLaws.{sure_then, sure_done, sure_here, sure_if, sure_each, whatever}
use Rattle.kinds.specs.Shape.{greatest}
use Rattle.values.specs.Format.{value, value_of, array, depth, keeping, entry}
use Rattle.scalars.specs.Scalars.{scalar_width, scalar_of, natural_of}
use Rattle.layout.specs.Padding.{padded}
use Rattle.layout.proofs.Padding.{padded-whole, padded_up}
use Rattle.reading.specs.declared.Limits.{Limits}
use Rattle.header.specs.Answers.{reader_run}
use Rattle.header.specs.Format.{usable, alignment_of, latest, header}
use Rattle.header.proofs.HeaderCeilings.{low-header}
use Rattle.header.proofs.HeaderRefusals.{not_listed, refuses_header}
use Rattle.start.specs.declared.Rooms.{Rooms}
use Rattle.values.specs.declared.Dialect.{Dialect}
use Rattle.values.specs.declared.ArraySpan.{ArraySpan}
use Rattle.values.specs.declared.Entry.{Entry}
use Rattle.values.specs.declared.Value.{Value}
use Rattle.values.specs.declared.Value.TheVariants.{Single, Text, Array}
use Rattle.scalars.proofs.Integers.{Small, natural_small}

-- an alignment is above 0 and fits 64 bits
pub record Alignment (a : ℕ) : Type 0 where
  pub above : 0 < a
  pub fits : a ≤ greatest

pub thirty_two : Alignment 32
thirty_two = record { above = omega arith; fits = omega arith }

usable_cases : (n : ℕ) → n ≤ greatest → (b c : Bool) → eqb n 0 ≡ b → Alignment (if (if b then false else c) then n else 32)
usable_cases n h true c e = record { above = omega arith; fits = omega arith }
usable_cases n h false true e =
    let some : n ≡ 0 → ⊥ = eqb-false n 0 e in
    record { above = omega arith; fits = h }
usable_cases n h false false e = record { above = omega arith; fits = omega arith }

pub usable-alignment : (n : Option ℕ) → Small n → Alignment (usable n)
usable-alignment (Some n) h = usable_cases n h (eqb n 0) (eqb (n % 8) 0) refl
usable-alignment None h = thirty_two

-- however many of an array's items are kept
pub kept-alignment : (tokens : Bool) (cap : ℕ) (v : Value) → alignment_of (keeping tokens cap v) ≡ alignment_of v
kept-alignment tokens cap (Single x) = refl
kept-alignment tokens cap (Text a) = refl
kept-alignment tokens cap (Array a) = refl

module _ (k : Dialect) (s : List ℕ) where
  sure_value_of : (arrays : ℕ → Reading ArraySpan) (o t p : ℕ) → Sure s (value_of arrays k o t) p (λ v q. Alignment (alignment_of v))
  unfolding value_of
  sure_value_of arrays o t p =
      sure_if (ltb 0 (scalar_width t)) _ _ (λ e. sure_then whatever (λ n q u. sure_done (usable-alignment (natural_of (scalar_of t n)) (natural_small t n))))
      (λ e. sure_if (eqb t 8) _ _ (λ f. sure_then whatever (λ a q u. sure_done thirty_two)) (λ f. sure_then whatever (λ a q u. sure_done thirty_two)))

  sure_value : (p : ℕ) → Sure s (value k) p (λ v q. Alignment (alignment_of v))
  unfolding value
  sure_value p = sure_here _ (sure_then whatever (λ t q u. sure_value_of (array depth k) p t q))

  sure_aligned : (cap p : ℕ) → Sure s (entry k cap) p (λ e q. Alignment (alignment_of e.value))
  unfolding entry
  sure_aligned cap p = sure_then whatever (λ x q u. sure_then (sure_value q) (λ v r h. sure_done (rw (kept-alignment x.is_tokenizer cap v) h)))

pub latest-alignment : (a : ℕ) (b : Bool) (c : ℕ) → Alignment a → Alignment c → Alignment (if b then c else a)
latest-alignment a true c h g = g
latest-alignment a false c h g = h

fold-alignment : (es : List Entry) (a : ℕ) → Alignment a → All (λ (e : Entry). Alignment (alignment_of e.value)) es → Alignment (fold latest a es)
fold-alignment [] a h all = h
fold-alignment (e ∷ es) a h all = fold-alignment es (latest a e) (latest-alignment a e.is_alignment (alignment_of e.value) h all.0) all.1

-- the alignment of entries that were read
pub entries-alignment : (k : Dialect) (cap n : ℕ) (s : List ℕ) (p : ℕ) {es : List Entry} {q : ℕ} → accepted es q ≡ run (times n (entry k cap)) s p → Alignment (fold latest 32 es)
entries-alignment k cap n s p {es} {q} e =
    fold-alignment es 32 thirty_two ((sure_each {P = λ z (a : Entry). Alignment (alignment_of a.value)} _ _ (λ z r. sure_aligned k s cap r) n tt p).holds es q e).1

-- a number rounded up to a multiple of a is at most a, or twice the number
rounded_cases : (a n : ℕ) (b c : Bool) → 0 < a → eqb (n % a) 0 ≡ b → leb a n ≡ c → padded a n ≤ max a (n + n)
rounded_cases a n true c h e f =
    let i : padded a n ≡ n = padded-whole a n h (eqb-true (n % a) 0 e) in
    omega arith
rounded_cases a n false true h e f =
    let i : padded a n ≡ n + (a - n % a) = padded_up a n h (eqb-false (n % a) 0 e) in
    let j : a ≤ n = leb-true a n f in
    omega arith
rounded_cases a n false false h e f =
    let i : padded a n ≡ n + (a - n % a) = padded_up a n h (eqb-false (n % a) 0 e) in
    let j : n < a = leb-false a n f in
    let m : n % a ≡ n = mod-eq_of_lt j in
    omega arith

pub rounded_small : (a n : ℕ) → 0 < a → padded a n ≤ max a (n + n)
rounded_small a n h = rounded_cases a n (eqb (n % a) 0) (leb a n) h refl refl

-- in fewer than 2 ^ 63 bytes the start of the data fits 64 bits
pub start_small : (a n : ℕ) → Alignment a → n < 2 ^ 63 → padded a n ≤ greatest
start_small a n h short = omega (arith, h.fits, rounded_small a n h.above)

-- no header in fewer than 2 ^ 63 bytes is refused for the start of its data; a slice has fewer,
-- since owning one tells that its elements take fewer
never_overflows : (l : Limits) (rooms : Rooms) (cap : ℕ) (s : List ℕ) → length s < 2 ^ 63 → Refuses l s (λ n q. n ≡ 18 → ⊥) (header rooms cap)
never_overflows l rooms cap s short =
    refuses_header rooms cap (λ n q h low. not_listed 18 n refl h) (λ k p. record { holds = λ n q e o low. (λ f i. omega arith, λ f i. omega arith) })
    (λ k n p es q e read low over i.
    let near : e < 2 ^ 63 = omega arith in
    omega (arith, start_small (fold latest 32 es) e (entries-alignment k cap n s p read) near))

pub no_overflow : (rooms : Rooms) (cap : ℕ) (s : List ℕ) → length s < 2 ^ 63 → {p : ℕ} → run (header rooms cap) s 0 ≡ refused 18 p → ⊥
no_overflow rooms cap s short {p} e =
    let same = low_run full (header rooms cap) (low-header full (omega arith) (omega arith) rooms cap) s 0 in
    (never_overflows full rooms cap s short).refusal 0 (omega arith) 18 p (sym (same ∙ e)) refl

-- nor does a reader with any ceilings refuse a slice for that
pub never-18 : (limits : Limits) (cap : ℕ) (es ts : List (List ℕ)) (s : List ℕ) → length s < 2 ^ 63 → {p : ℕ} → reader_run limits cap es ts s ≡ refused 18 p → ⊥
never-18 limits cap es ts s short {p} e =
    (never_overflows limits (record { entries = length es; tensors = length ts }) cap s short).refusal 0 (omega arith) 18 p (sym e) refl
