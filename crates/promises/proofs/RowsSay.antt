-- A row that was listed says what was read: a scalar's word, cut to its width, is its bits again.
-- Assumes nothing.
use Rattle.std.specs.Prelude.{if◌then◌else◌}
use Prim.Native.Nat.{ℕ, suc, ◌+◌, ◌-◌, ◌%◌, ◌^◌, ◌≤◌, ◌<◌}
use mathlib.Core.Path.{◌≡◌, refl, ap}
use mathlib.Core.Bool.{Bool, true, false, not}
use mathlib.Core.List.{List, [], ◌∷◌, map}
use native.Mathlib.Omega.{arith}
use lib.Dec.{eqb, ltb}
use lib.IntN.{pos, negsuc}
use lib.ListN.{length}
use borrow.Author.Tests.{ltb-true, ne_eqb}
use mir.Syntax.{Width, w8, w16, w32, w64, w128}
use mir.Val.{bits, hbits, of_z}
use Rattle.reading.specs.Back.{All, Sure}
use Rattle.reading.specs.Reading.{Reading, accepted}
use Rattle.reading.specs.declared.Limits.{Limits}
use Rattle.reading.proofs.SureLaws.{sure_then, sure_done, sure_here, sure_if, sure_each, sure_under, whatever}
use Rattle.scalars.specs.Scalars.{scalar_width, scalar_of, scalar_word, signed_of}
use Rattle.scalars.specs.declared.Scalar.TheVariants.{U8, I8, U16, I16, U32, I32, F32, Bool as Truth, U64, I64, F64}
use Rattle.scalars.proofs.Types.{◌&◌, below, scalar-typed}
use Rattle.values.specs.declared.Dialect.{Dialect}
use Rattle.values.specs.declared.ArraySpan.{ArraySpan}
use Rattle.values.specs.declared.Entry.{Entry}
use Rattle.values.specs.declared.Value.{Value}
use Rattle.values.specs.declared.Value.TheVariants.{Single, Text, Array}
use Rattle.values.specs.Format.{value_of, array, depth, value, keeping, entry}
use Rattle.values.specs.Contents.{entry_content}
use Rattle.values.specs.Rows.{value_words, entry_row}
use Rattle.values.proofs.ValueForms.{sure_type}
use Rattle.tensors.specs.declared.Tensor.{Tensor}
use Rattle.tensors.specs.Contents.{tensor_content}
use Rattle.tensors.specs.Rows.{tensor_row}
use Rattle.start.specs.declared.Rooms.{Rooms}
use Rattle.header.specs.Answers.{reader_run}
use Rattle.header.specs.Format.{FullHeader, header}
use Rattle.header.proofs.Judged.{sure_judged}
use Rattle.promises.specs.RowContents.{value_in_row, entry_in_row, tensor_in_row}

-- a signed number, in two's complement of 64 bits, has the bits that it was read from as its low
-- ones: at each width
low_bits : (w : Width) (m : ℕ) (b : Bool) → bits w ≤ 64 → m < 2 ^ bits w → of_z w64 (if b then pos m else negsuc (2 ^ hbits w + 2 ^ hbits w - suc m)) % 2 ^ bits w ≡ m
low_bits w8 m true i h = omega arith
low_bits w8 m false i h = omega arith
low_bits w16 m true i h = omega arith
low_bits w16 m false i h = omega arith
low_bits w32 m true i h = omega arith
low_bits w32 m false i h = omega arith
low_bits w64 m true i h = omega arith
low_bits w64 m false i h = omega arith
low_bits w128 m b i h = absurd (omega arith)

signed_low : (w : Width) → bits w ≤ 64 → (m : ℕ) → m < 2 ^ bits w → of_z w64 (signed_of (2 ^ hbits w) m) % 2 ^ bits w ≡ m
signed_low w i m h = low_bits w m (ltb m (2 ^ hbits w)) i h

-- a scalar that was read is the scalar of its word
pub word-again : (t n : ℕ) → t ≤ 12 → 0 < scalar_width t → scalar_of t (scalar_word (scalar_of t n)) ≡ scalar_of t n
unfolding scalar_width
word-again t n h =
    below (λ u. 0 < scalar_width u → scalar_of u (scalar_word (scalar_of u n)) ≡ scalar_of u n) 13
    ((λ w. ap U8 (omega arith)) &
    (λ w. ap (λ m. I8 (signed_of (2 ^ 7) m)) (signed_low w8 (omega arith) (n % 2 ^ 8) (omega arith))) &
    (λ w. ap U16 (omega arith)) &
    (λ w. ap (λ m. I16 (signed_of (2 ^ 15) m)) (signed_low w16 (omega arith) (n % 2 ^ 16) (omega arith))) &
    (λ w. ap U32 (omega arith)) &
    (λ w. ap (λ m. I32 (signed_of (2 ^ 31) m)) (signed_low w32 (omega arith) (n % 2 ^ 32) (omega arith))) &
    (λ w. ap F32 (omega arith)) &
    (λ w. truth (eqb (n % 2 ^ 8) 0)) &
    (λ w. absurd (omega arith)) &
    (λ w. absurd (omega arith)) &
    (λ w. ap U64 (omega arith)) &
    (λ w. ap (λ m. I64 (signed_of (2 ^ 63) m)) (signed_low w64 (omega arith) (n % 2 ^ 64) (omega arith))) &
    (λ w. ap F64 (omega arith)) &
    tt) t (omega arith)
  where
    truth : (b : Bool) → Truth (not (eqb ((if not b then 1 else 0) % 2 ^ 8) 0)) ≡ Truth (not b)
    truth true = refl
    truth false = refl

-- a value whose words say it, whatever its key
abbrev Said : Value → Type 0
Said v = (p n : ℕ) → value_in_row (p ∷ n ∷ value_words v) ≡ v

-- a type that has no width is no scalar's
not_scalar : (t u : ℕ) → 0 < scalar_width t → scalar_width u ≡ 0 → eqb t u ≡ false
not_scalar t u wide none =
    ne_eqb t u (λ e.
    let same : scalar_width t ≡ scalar_width u = ap scalar_width e in
    omega (arith, wide, none, same))

-- so a scalar that was read is said by its words
scalar-said : (t n : ℕ) → t ≤ 12 → 0 < scalar_width t → Said (Single (scalar_of t n))
unfolding scalar_width
scalar-said t n h w p l = rw (scalar-typed t n h w, not_scalar t 8 w refl, not_scalar t 9 w refl, word-again t n h w) refl

-- and so is what is kept of a value
said-kept : (tokens : Bool) (cap : ℕ) (v : Value) → Said v → Said (keeping tokens cap v)
said-kept tokens cap (Single x) h = h
said-kept tokens cap (Text a) h = λ p n. refl
said-kept tokens cap (Array a) h = λ p n. refl

module _ (k : Dialect) (s : List ℕ) where
  -- a value that was read
  sure_said_of : (arrays : ℕ → Reading ArraySpan) (o t p : ℕ) → t ≤ 12 → Sure s (value_of arrays k o t) p (λ v q. Said v)
  unfolding value_of
  sure_said_of arrays o t p i =
      sure_if (ltb 0 (scalar_width t)) _ _ (λ e. sure_then whatever (λ n q u. sure_done (scalar-said t n i (ltb-true _ _ e))))
      (λ e. sure_if (eqb t 8) _ _ (λ g. sure_then whatever (λ a q u. sure_done (λ p n. refl))) (λ g. sure_then whatever (λ a q u. sure_done (λ p n. refl))))

  sure_said : (p : ℕ) → Sure s (value k) p (λ v q. Said v)
  unfolding value
  sure_said p = sure_here _ (sure_then (sure_type k s p) (λ t q i. sure_said_of (array depth k) p t q i))

  -- an entry that was read
  sure_row : (cap p : ℕ) → Sure s (entry k cap) p (λ e q. value_in_row (entry_row e) ≡ e.value)
  unfolding entry
  sure_row cap p = sure_then whatever (λ x q u. sure_then (sure_said q) (λ v r h. sure_done (said-kept x.is_tokenizer cap v h x.span.place x.span.len)))

-- a header: its entries' rows say their values
sure_rows : (s : List ℕ) (rooms : Rooms) (cap p : ℕ) → Sure s (header rooms cap) p (λ w q. All (λ (e : Entry). value_in_row (entry_row e) ≡ e.value) w.entries)
unfolding header
sure_rows s rooms cap p =
    sure_then whatever (λ c q u.
    sure_then (sure_each _ _ (λ z. sure_row c.dialect s cap) c.entries tt q) (λ es r h.
    sure_then whatever (λ ts o v.
    sure_here _ (sure_judged c es ts o (λ tested. h.1)))))

-- whatever the bytes, the ceilings, the cap and the tables are, the value of each entry that was
-- read stands in its row
pub values_in_rows : (limits : Limits) (cap : ℕ) (es ts : List (List ℕ)) (s : List ℕ) {w : FullHeader} {q : ℕ} → accepted w q ≡ reader_run limits cap es ts s
    → All (λ (e : Entry). value_in_row (entry_row e) ≡ e.value) w.entries
values_in_rows limits cap es ts s {w} {q} read = (sure_under limits (sure_rows s (record { entries = length es; tensors = length ts }) cap 0)).holds w q read

-- so an entry's row says what the entry says, of any bytes, and a tensor's row what the tensor says
pub entry-said : (k : Dialect) (s : List ℕ) (e : Entry) → value_in_row (entry_row e) ≡ e.value → entry_in_row k s (entry_row e) ≡ entry_content k s e
entry-said k s e h = rw h refl

pub tensor-said : (s : List ℕ) (t : Tensor) → tensor_in_row s (tensor_row t) ≡ tensor_content s t
tensor-said s t = refl

-- and all of them
pub entries-said : (k : Dialect) (s : List ℕ) (l : List Entry) → All (λ (e : Entry). value_in_row (entry_row e) ≡ e.value) l → map (entry_in_row k s) (map entry_row l) ≡ map (entry_content k s) l
entries-said k s [] h = refl
entries-said k s (e ∷ l) h = rw (entry-said k s e h.0, entries-said k s l h.1) refl

pub tensors-said : (s : List ℕ) (l : List Tensor) → map (tensor_in_row s) (map tensor_row l) ≡ map (tensor_content s) l
tensors-said s [] = refl
tensors-said s (t ∷ l) = rw (tensors-said s l) refl
