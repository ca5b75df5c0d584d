-- What the sheet's steps are held to: their answers, without what an entry says. Of this crate's
-- public functions only the contract of `pass_array` cites it.
use Rattle.std.specs.Prelude.{ℕ, List, leb, length, if◌then◌else◌, Option, Some, None, Result, Ok, Err}
use Rattle.reading.specs.Reading.{Answer, accepted, refused}
use Rattle.tensors.specs.declared.Shape.{Shape}

-- where an entry's body begins, after its tag, and where it ends, which is inside the sheet
abbrev pub opened_of : ℕ → Answer ℕ → Option (ℕ × ℕ)
opened_of len (accepted e q) = if leb e len then Some (q, e) else None
opened_of len (refused n p) = None

-- the place after what could be read, or that it could not
abbrev pub step_of : {A : Type 0} → Answer A → Option ℕ
step_of (accepted a q) = Some q
step_of (refused n p) = None

-- a shape, and the place after it
abbrev pub shape_of : Answer Shape → Option (Shape × ℕ)
shape_of (accepted x q) = Some (x, q)
shape_of (refused n p) = None

-- how many there are, and the place after them; or the first that is bad
abbrev pub count_of : {A : Type 0} → Answer (List A) → Result (ℕ × ℕ) ℕ
count_of (accepted l q) = Ok (length l, q)
count_of (refused n p) = Err p
