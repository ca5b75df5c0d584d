-- A row as a record, and what the functions over a slice of records answer and leave there.
use Rattle.std.specs.Prelude.{ℕ, Bool, List, [], ◌∷◌, ltb, length, get_or, set, take, if◌then◌else◌, Option, Some, None, Result, Ok, Err}
use Rattle.reading.specs.Reading.{Answer}
use Rattle.reading.specs.declared.Limits.{Limits}
use Rattle.tensors.specs.Rows.{tensor_row}
use Rattle.tensors.specs.declared.Tensor.{Tensor}
use Rattle.header.specs.Format.{FullHeader}
use Rattle.reading.specs.declared.Refusal.{Refusal}
use Rattle.header.specs.declared.Header.{Header}
use Rattle.header.specs.Answers.{reader_run}
use Rattle.rows.specs.Columns.{place_in, length_in, kind_in, dimensions_in, first_length_in, second_length_in, third_length_in, fourth_length_in, offset_in, size_in}
use Rattle.tensor_records.specs.declared.TensorRecord.{TensorRecord}

-- a row of ten words as a record
abbrev pub record_of : List ℕ → TensorRecord
record_of row = record {
  name_place = place_in row;
  name_len = length_in row;
  kind = kind_in row;
  dimensions = dimensions_in row;
  first = first_length_in row;
  second = second_length_in row;
  third = third_length_in row;
  fourth = fourth_length_in row;
  offset = offset_in row;
  size = size_in row;
}

-- whether there is a record with the number i
abbrev pub kept_of : List TensorRecord → ℕ → Bool
kept_of records i = ltb i (length records)

-- the records with r at the number i, where there is one
abbrev pub put_at : List TensorRecord → ℕ → TensorRecord → List TensorRecord
put_at records i r = if kept_of records i then set records i r else records

-- the record of no tensor
abbrev pub blank : TensorRecord
blank = record_of []

-- the record with the number i, where there is one
abbrev pub got_at : List TensorRecord → ℕ → Option TensorRecord
got_at records i = if kept_of records i then Some (get_or records i blank) else None

-- the records with those of the rows in front, as far as there are both
abbrev pub filled_from : List TensorRecord → List (List ℕ) → List TensorRecord
filled_from [] rows = []
filled_from (r ∷ records) [] = r ∷ records
filled_from (r ∷ records) (row ∷ rows) = record_of row ∷ filled_from records rows

-- how many tensors an answer counts
abbrev pub tensors_in : Result Header Refusal → ℕ
tensors_in (Ok h) = h.tensors
tensors_in (Err e) = 0

-- a tensor's record: its row's
abbrev pub tensor_record : Tensor → TensorRecord
tensor_record t = record_of (tensor_row t)

-- the run that a reader of records answers and fills from: there is room for as many tensors as
-- there are both rows and records
abbrev pub listing_of : Limits → ℕ → List (List ℕ) → List (List ℕ) → List TensorRecord → List ℕ → Answer FullHeader
listing_of limits cap entries rows records s = reader_run limits cap entries (take (length records) rows) s
