-- What the program lists of a header, beside the answer.
use Rattle.std.specs.Prelude.{ℕ, List, [], ◌∷◌, Result}
use Rattle.reading.specs.Each.{filled}
use Rattle.reading.specs.Reading.{seen}
use Rattle.reading.specs.Ceilings.{full}
use Rattle.reading.specs.declared.Refusal.{Refusal}
use Rattle.header.specs.declared.Header.{Header}
use Rattle.tensor_records.specs.Records.{got_at, tensor_record, listing_of}
use Rattle.tensor_records.specs.declared.TensorRecord.{TensorRecord}
use Rattle.records_demo.specs.declared.Listing.{Listing}

-- the two records after the header was read
abbrev pub records_in : List (List ℕ) → List (List ℕ) → TensorRecord → List ℕ → List TensorRecord
records_in entries rows blank s = filled tensor_record (blank ∷ blank ∷ []) (seen (λ w. w.tensors) (listing_of full 3 entries rows (blank ∷ blank ∷ []) s))

-- an answer, and what stands at the numbers 0, 1 and 2 of some records
abbrev pub listed : Result Header Refusal → List TensorRecord → Listing
listed answer records = record { answer = answer; first = got_at records 0; second = got_at records 1; third = got_at records 2 }
