-- What the code's answers say, with the numbers that refusals have.
use Rattle.std.specs.Prelude.{ℕ, Result, Ok, Err}
use Rattle.reading.specs.Reading.{Answer, accepted, refused}
use Rattle.reading.specs.declared.Reason.{Reason}
use Rattle.reading.specs.declared.Reason.TheVariants as reasons
use Rattle.reading.specs.declared.Refusal.{Refusal}

-- the number of a reason
abbrev pub reason_number : Reason → ℕ
reason_number reasons.CutOff = 1
reason_number reasons.OlderFormat = 2
reason_number reasons.NotGguf = 3
reason_number reasons.UnknownVersion = 4
reason_number reasons.VersionAboveCeiling = 5
reason_number reasons.TooFewRows = 6
reason_number reasons.StringTooLong = 7
reason_number reasons.UnknownType = 8
reason_number reasons.NestedArray = 9
reason_number reasons.TooManyDimensions = 10
reason_number reasons.UnknownKind = 11
reason_number reasons.KindAboveCeiling = 12
reason_number reasons.ProductOverflow = 13
reason_number reasons.SizeOverflow = 14
reason_number reasons.TotalOverflow = 15
reason_number reasons.Misaligned = 16
reason_number reasons.PartialBlock = 17
reason_number reasons.DataStartOverflow = 18
reason_number reasons.PastTheFile = 20
reason_number reasons.VersionNotWritten = 30
reason_number reasons.BadSheet = 31
reason_number reasons.BadAlignment = 32
reason_number reasons.AlignmentTooLarge = 33
reason_number reasons.OtherAlignment = 34
reason_number reasons.KindNotWritten = 35
reason_number reasons.OffsetOverflow = 36
reason_number reasons.CountOverflow = 37
reason_number reasons.OutputTooShort = 38
reason_number reasons.BadTrace = 43
reason_number reasons.TraceOverflow = 44
reason_number reasons.NoAnswerRows = 45

-- what was read with the place after it, or the refusal's number and place
abbrev pub as_answer : {A : Type 0} → Result (A × ℕ) Refusal → Answer A
as_answer (Ok x) = accepted x.0 x.1
as_answer (Err e) = refused (reason_number e.why) e.place

-- something of which only the place after it is kept
abbrev pub as_passed : Result ℕ Refusal → Answer (Unit {0})
as_passed (Ok q) = accepted tt q
as_passed (Err e) = refused (reason_number e.why) e.place

-- what a whole call comes to: a value, or a refusal's number and place
pub data Reply (A : Type 0) : Type 0 where
  gives : A → Reply A
  refuses : ℕ → ℕ → Reply A

-- what the code's answer to a call says
abbrev pub as_reply : {A : Type 0} → Result A Refusal → Reply A
as_reply (Ok a) = gives a
as_reply (Err e) = refuses (reason_number e.why) e.place

-- an answer, without the place after it
abbrev pub reply_of : {A : Type 0} → Answer A → Reply A
reply_of (accepted a q) = gives a
reply_of (refused n p) = refuses n p

-- what the code's answer says where a refusal has no place
abbrev pub as_result : {A : Type 0} → Result A Reason → Result A ℕ
as_result (Ok a) = Ok a
as_result (Err why) = Err (reason_number why)
