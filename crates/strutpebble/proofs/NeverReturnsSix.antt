-- The exported functions that take no rows never return 6, the number of 'more records than rows'.
-- Assumes nothing.
use Rattle.reading.specs.Replies.{Reply, gives, refuses}
use Rattle.lookup.specs.declared.TensorSearch.{TensorSearch}
use Rattle.tensors.specs.declared.Tensor.{Tensor}
use Rattle.values.specs.declared.Entry.{Entry}
use Rattle.std.specs.Prelude.{if◌then◌else◌, Option, Some, None}
use Prim.Native.Nat.{ℕ}
use mathlib.Core.Path.{◌≡◌, refl, sym, ap, ◌∙◌}
use mathlib.Core.List.{List, [], ◌∷◌}
use native.Mathlib.Omega.{arith}
use lib.ListN.{get_or}
use borrow.Author.Tests.{ne_eqb}
use Rattle.reading.specs.Back.{All}
use Rattle.fields.specs.Bytes.{Byte}
use Rattle.reading.specs.Reading.{Answer, accepted, refused}
use Rattle.reading.specs.Refusals.{is_one_of}
use Rattle.reading.specs.declared.Limits.{Limits}
use Rattle.reading.proofs.Repetition.{seen-refused}
use mathlib.Core.Bool.{Bool, true, false}
use lib.Dec.{leb}
use Rattle.scalars.specs.Scalars.{natural_of}
use Rattle.values.specs.declared.Value.{Value}
use Rattle.values.specs.declared.Value.TheVariants.{Single, Text, Array}
use Rattle.header.specs.declared.Header.{Header}
use Rattle.header.proofs.NeverSix.{never-6}
use Rattle.lookup.specs.Questions.{lookup, type_status, file_type_of, value_file_type, file_type_in}
use Rattle.lookup.specs.Tensors.{tensor_lookup}
use Rattle.lookup.proofs.FullReader.{record_refusals}
use Rattle.lookup.proofs.LookupNeverSix.{lookup-never-6}
use Rattle.lookup.proofs.TensorAnswers.{refused-listed, tensor-never-6}
use Rattle.words.specs.Words.{there_or, measured, number_of, entry_number, string_number, tensor_number, type_number}

-- one of a list is no number that is not in it
unlike : (ns : List ℕ) (n m : ℕ) → is_one_of n ns ≡ true → is_one_of m ns ≡ false → n ≡ m → ⊥
unlike ns n m h g e =
    let f : true ≡ false = sym h ∙ ap (λ x. is_one_of x ns) e ∙ g in
    let z : ◌≡◌ {A = ℕ} 0 1 = cc in
    omega arith

others : (n : ℕ) → is_one_of n record_refusals ≡ true → (n ≡ 6 → ⊥) → is_one_of n (6 ∷ 16 ∷ 18 ∷ []) ≡ false
others n h rows = rw (ne_eqb n 6 rows, ne_eqb n 16 (unlike record_refusals n 16 h refl), ne_eqb n 18 (unlike record_refusals n 18 h refl)) refl

-- `sp_find_tensor`, which never returns 16 or 18 either
pub tensor-never : (name s : List ℕ) → All Byte s → is_one_of (tensor_number (tensor_lookup name s)) (6 ∷ 16 ∷ 18 ∷ []) ≡ false
tensor-never name s bytes = by (tensor_lookup name s) refl
  where
    found : (x : Option Tensor) → is_one_of (there_or 100 x) (6 ∷ 16 ∷ 18 ∷ []) ≡ false
    found (Some t) = refl
    found None = refl

    by : (l : Reply TensorSearch) → l ≡ tensor_lookup name s → is_one_of (tensor_number l) (6 ∷ 16 ∷ 18 ∷ []) ≡ false
    by (gives x) f = found x.tensor
    by (refuses n p) f = others n (refused-listed name s f).listed (λ e. tensor-never-6 name s bytes (ap (λ m. refuses m p) (sym e) ∙ f))

-- `sp_measure`
pub measured-never-6 : (limits : Limits) (s : List ℕ) → All Byte s → number_of (measured limits s) ≡ 6 → ⊥
measured-never-6 limits s bytes e = by (measured limits s) refl e
  where
    by : (r : Answer Header) → r ≡ measured limits s → number_of r ≡ 6 → ⊥
    by (accepted h q) f e = omega arith
    by (refused n p) f e = never-6 limits 3 s bytes (sym (seen-refused _ _ _ _ (ap (λ m. refused m p) (sym e) ∙ f)))

-- a file type's number, in the table or beyond it
known-type : (n : ℕ) (b : Bool) → type_number (gives (if b then Some n else None)) ≡ 6 → ⊥
known-type n true e = omega arith
known-type n false e = omega arith

file_type : (n : Option ℕ) → type_number (gives (file_type_of n)) ≡ 6 → ⊥
file_type (Some n) e = known-type n (leb n 24) e
file_type None e = omega arith

module _ (key s : List ℕ) (bytes : All Byte s) where
  not-six : {n p : ℕ} → refuses n p ≡ lookup key s → n ≡ 6 → ⊥
  not-six {p = p} f e = lookup-never-6 key s bytes (sym f ∙ ap (λ m. refuses m p) e)

  -- `sp_find`
  pub entry-never-6 : entry_number (lookup key s) ≡ 6 → ⊥
  entry-never-6 e = by (lookup key s) refl e
    where
      by : (l : Reply (Option Entry)) → l ≡ lookup key s → entry_number l ≡ 6 → ⊥
      by (gives (Some x)) f e = omega arith
      by (gives None) f e = omega arith
      by (refuses n p) f e = not-six f e

  -- `sp_find_string`, and `sp_model_family` with its key
  pub string-never-6 : string_number (lookup key s) ≡ 6 → ⊥
  string-never-6 e = by (lookup key s) refl e
    where
      told : (v : Value) → get_or (type_status v) 0 0 ≡ 6 → ⊥
      told (Single x) e = omega arith
      told (Text a) e = omega arith
      told (Array a) e = omega arith

      by : (l : Reply (Option Entry)) → l ≡ lookup key s → string_number l ≡ 6 → ⊥
      by (gives (Some x)) f e = told x.value e
      by (gives None) f e = omega arith
      by (refuses n p) f e = not-six f e

  -- `sp_file_type`, with its key
  pub type-never-6 : type_number (file_type_in (lookup key s)) ≡ 6 → ⊥
  type-never-6 e = by (lookup key s) refl e
    where
      told : (v : Value) → type_number (gives (value_file_type v)) ≡ 6 → ⊥
      told (Single x) e = file_type (natural_of x) e
      told (Text a) e = omega arith
      told (Array a) e = omega arith

      by : (l : Reply (Option Entry)) → l ≡ lookup key s → type_number (file_type_in l) ≡ 6 → ⊥
      by (gives (Some x)) f e = told x.value e
      by (gives None) f e = omega arith
      by (refuses n p) f e = not-six f e
