-- What the reader's private steps are held to: rows that are kept while a header is tested, what is
-- noted of its offsets meanwhile, and the answer of its last tests. No contract of a public function
-- cites it.
use Rattle.std.specs.Prelude.{ℕ, ◌%◌, ◌≤◌, ◌≡◌, List, leb, eqb, length, if◌then◌else◌, Result, Ok, Err}
use Rattle.std.specs.Int.Bits.{bit_and}
use Rattle.reading.specs.Reading.{Answer, accepted, refused}
use Rattle.reading.specs.Each.{filled}
use Rattle.kinds.specs.Shape.{greatest}
use Rattle.values.specs.Rows.{entry_row}
use Rattle.values.specs.declared.Entry.{Entry}
use Rattle.reading.specs.declared.Refusal.{Refusal}
use Rattle.reading.specs.Replies.{reason_number}
use Rattle.tensors.specs.Format.{offset_place}
use Rattle.tensors.specs.declared.Tensor.{Tensor}
use Rattle.layout.specs.Padding.{padded}
use Rattle.start.specs.declared.Start.{Start}
use Rattle.header.specs.declared.Header.{Header}
use Rattle.header.specs.Format.{header_of, is_aligned}

-- a table with n rows or more has the rows of what was read at its front: to write them there
-- changes nothing
abbrev pub Keeps : ℕ → List (List ℕ) → Answer (List Entry) → Type 0
Keeps n kept r = n ≤ length kept → kept ≡ filled entry_row kept r

-- bits that tell multiples of a: a number of 64 bits that has none of them is one
pub record Tells (bits a : ℕ) : Type 0 where
  pub multiple : (n : ℕ) → n ≤ greatest → bit_and n bits ≡ 0 → n % a ≡ 0

-- the place that is noted after a tensor, where m was noted before, and 0 is none: the first place
-- of an offset that is no multiple of the alignment a
abbrev pub noted : ℕ → ℕ → Tensor → ℕ
noted a m t = if is_aligned a t then m else if eqb m 0 then offset_place t else m

-- tensors that were passed, with the place that is noted then
abbrev pub as_noted : Result ℕ Refusal → ℕ → Answer ℕ
as_noted (Ok q) m = accepted m q
as_noted (Err e) m = refused (reason_number e.why) e.place

-- the header that ends at e, where the start of its data fits and no place was noted
abbrev pub header_if_it_fits : Start → ℕ → ℕ → ℕ → Answer Header
header_if_it_fits c a e m = if leb (padded a e) greatest then if eqb m 0 then accepted (header_of c a e) e else refused 16 m else refused 18 e

-- the same of tensors that were passed, and else their refusal
abbrev pub header_after : Start → ℕ → Answer ℕ → Answer Header
header_after c a (accepted m e) = header_if_it_fits c a e m
header_after c a (refused n p) = refused n p
