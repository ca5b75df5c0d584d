-- What more bytes may change of what an exported function returns and writes: nothing, once it
-- returned any number but 1, that of 'a field is not wholly there'. Assumes nothing.
use Prim.Native.Nat.{ℕ}
use mathlib.Core.Path.{◌≡◌, refl, ap}
use mathlib.Core.List.{List, ◌++◌}
use lib.Dec.{T}
use Rattle.reading.specs.Reading.{Answer, accepted, refused, final}
use Rattle.reading.specs.declared.Limits.{Limits}
use Rattle.reading.proofs.RunLaws.{other_than-1}
use Rattle.start.specs.Format.{enough}
use Rattle.header.specs.declared.Header.{Header}
use Rattle.header.specs.Answers.{Outcome, reader_outcome}
use Rattle.header.proofs.Stays.{stays, measure_stays}
use Rattle.lookup.specs.Questions.{lookup, file_type_key, file_type_in}
use Rattle.lookup.specs.Tensors.{tensor_lookup}
use Rattle.lookup.proofs.LookupsStay.{lookup-stays, type-stays as file-type-stays}
use Rattle.lookup.proofs.TensorAnswers.{tensor-stays as find-tensor-stays}
use Rattle.words.specs.Words.{measured, number_of, words_of, entry_number, entry_words, string_number, string_words, tensor_number, tensor_words, row_after, type_number, type_words}

-- two answers that are the same have the same number and the same words
module _ {A : Type 0} (number : A → ℕ) (words : A → List ℕ) where
  told : {x y : A} → x ≡ y → (number x ≡ number y) × (words x ≡ words y)
  told same = (ap number same, ap words same)

-- an answer of any other number stays
other-number : (r : Answer Header) → (number_of r ≡ 1 → ⊥) → T (final r)
other-number (accepted h q) other = tt
other-number (refused n p) other = other_than-1 {A = Header} (refused n p) refl other

-- what `sp_read` returns, writes and leaves in both tables, over the bytes s and over longer ones
pub record SameRead (o longer : Outcome) : Type 0 where
  pub number : number_of longer.answer ≡ number_of o.answer
  pub words : words_of longer.answer ≡ words_of o.answer
  pub entries : longer.entries ≡ o.entries
  pub tensors : longer.tensors ≡ o.tensors

module _ (s t : List ℕ) where
  -- `sp_read`, with equal ceilings, cap and tables
  pub read_stays : (limits : Limits) (cap : ℕ) (es ts : List (List ℕ)) → (number_of (reader_outcome limits cap es ts s).answer ≡ 1 → ⊥)
      → SameRead (reader_outcome limits cap es ts s) (reader_outcome limits cap es ts (s ++ t))
  read_stays limits cap es ts other =
      let same = stays limits cap es ts s t (other-number (reader_outcome limits cap es ts s).answer other) in
      record {
        number = ap (λ (o : Outcome). number_of o.answer) same;
        words = ap (λ (o : Outcome). words_of o.answer) same;
        entries = ap (λ (o : Outcome). o.entries) same;
        tensors = ap (λ (o : Outcome). o.tensors) same;
      }

  -- `sp_measure`, with equal ceilings
  pub measured-stays : (limits : Limits) → (number_of (measured limits s) ≡ 1 → ⊥)
      → (number_of (measured limits (s ++ t)) ≡ number_of (measured limits s)) × (words_of (measured limits (s ++ t)) ≡ words_of (measured limits s))
  measured-stays limits other = told number_of words_of (measure_stays limits enough 3 s t (other-number (measured limits s) other))

  -- `sp_find`
  pub entry-stays : (key : List ℕ) → (entry_number (lookup key s) ≡ 1 → ⊥)
      → (entry_number (lookup key (s ++ t)) ≡ entry_number (lookup key s)) × (entry_words (lookup key (s ++ t)) ≡ entry_words (lookup key s))
  entry-stays key other = told entry_number entry_words (lookup-stays key s t (λ p e. other (ap entry_number e)))

  -- `sp_find_string`, and `sp_model_family` with its key
  pub string-stays : (key : List ℕ) → (string_number (lookup key s) ≡ 1 → ⊥)
      → (string_number (lookup key (s ++ t)) ≡ string_number (lookup key s)) × (string_words (lookup key (s ++ t)) ≡ string_words (lookup key s))
  string-stays key other = told string_number string_words (lookup-stays key s t (λ p e. other (ap string_number e)))

  -- `sp_find_tensor`, and the row that it leaves of one that it was lent
  pub tensor-stays : (name row : List ℕ) → (tensor_number (tensor_lookup name s) ≡ 1 → ⊥)
      → (tensor_number (tensor_lookup name (s ++ t)) ≡ tensor_number (tensor_lookup name s)) × (tensor_words (tensor_lookup name (s ++ t)) ≡ tensor_words (tensor_lookup name s))
      × (row_after row (tensor_lookup name (s ++ t)) ≡ row_after row (tensor_lookup name s))
  tensor-stays name row other =
      let same = find-tensor-stays name s t (λ p e. other (ap tensor_number e)) in
      (ap tensor_number same, ap tensor_words same, ap (row_after row) same)

  -- `sp_file_type`
  pub type-stays : (type_number (file_type_in (lookup file_type_key s)) ≡ 1 → ⊥)
      → (type_number (file_type_in (lookup file_type_key (s ++ t))) ≡ type_number (file_type_in (lookup file_type_key s)))
      × (type_words (file_type_in (lookup file_type_key (s ++ t))) ≡ type_words (file_type_in (lookup file_type_key s)))
  type-stays other = told type_number type_words (file-type-stays s t (λ p e. other (ap type_number e)))
