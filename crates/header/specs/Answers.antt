-- What the code's answers say, and what a whole call of a reader comes to: an answer and two
-- tables, from one run.
use Rattle.std.specs.Prelude.{ℕ, ◌≡◌, List, length, Result, Ok, Err}
use Rattle.reading.specs.Reading.{Answer, accepted, refused, run, seen}
use Rattle.reading.specs.Each.{filled}
use Rattle.reading.specs.Ceilings.{under}
use Rattle.reading.specs.declared.Limits.{Limits}
use Rattle.values.specs.Rows.{entry_row}
use Rattle.tensors.specs.Rows.{tensor_row}
use Rattle.header.specs.declared.Header.{Header}
use Rattle.reading.specs.declared.Refusal.{Refusal}
use Rattle.reading.specs.Replies.{reason_number}
use Rattle.header.specs.Format.{FullHeader, header}

-- a header, with the place after it
abbrev pub as_header : Result Header Refusal → Answer Header
as_header (Ok h) = accepted h h.end
as_header (Err e) = refused (reason_number e.why) e.place

-- the run that a call comes from: the reader's ceilings and cap, the tables as they were, and the
-- bytes
abbrev pub reader_run : Limits → ℕ → List (List ℕ) → List (List ℕ) → List ℕ → Answer FullHeader
reader_run limits cap entries tensors s = run (under limits (header (record { entries = length entries; tensors = length tensors }) cap)) s 0

-- what a call comes to: its answer, and both tables after it
pub record Outcome : Type 0 where
  pub answer : Answer Header
  pub entries : List (List ℕ)
  pub tensors : List (List ℕ)

-- where the run accepted, the header, and a row for each record in front of each table; at a
-- refusal, the tables as they were
abbrev pub outcome_of : List (List ℕ) → List (List ℕ) → Answer FullHeader → Outcome
outcome_of entries tensors r =
    record {
      answer = seen (λ w. w.head) r;
      entries = filled entry_row entries (seen (λ w. w.entries) r);
      tensors = filled tensor_row tensors (seen (λ w. w.tensors) r);
    }

-- what a reader with these ceilings, this cap and these tables makes of the bytes s
abbrev pub reader_outcome : Limits → ℕ → List (List ℕ) → List (List ℕ) → List ℕ → Outcome
reader_outcome limits cap entries tensors s = outcome_of entries tensors (reader_run limits cap entries tensors s)

-- a call came to o: it gave that answer, and left those tables
pub record CameTo (o : Outcome) (gave : Answer Header) (entries tensors : List (List ℕ)) : Type 0 where
  pub answer : gave ≡ o.answer
  pub entry_rows : entries ≡ o.entries
  pub tensor_rows : tensors ≡ o.tensors
