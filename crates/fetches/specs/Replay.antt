-- When each tensor of a file was complete: after the first record of a trace by which every one of
-- its bytes was delivered.
use Rattle.std.specs.Prelude.{ℕ, zero, suc, ◌+◌, ◌-◌, ◌^◌, min, List, [], ◌∷◌, map, Bool, true, false, leb, ltb, length, take, if◌then◌else◌}
use Rattle.reading.specs.Reading.{Answer, accepted, refused, seen}
use Rattle.rows.specs.Columns.{offset_in, size_in}
use Rattle.fetches.specs.Trace.{fetch_end, fetches}
use Rattle.fetches.specs.declared.Fetch.{Fetch}
use Rattle.reading.specs.Replies.{Reply, gives, refuses}

-- the answer that says never
abbrev pub never : ℕ
never = 2 ^ 64 - 1

-- whether a record delivers the byte x of a file: x is in its range, which is cut where the file
-- ends
abbrev pub delivers : ℕ → Fetch → ℕ → Bool
delivers file f x = if leb f.offset x then ltb x (min (fetch_end f) file) else false

-- whether one of the records does
unfoldable pub delivered : ℕ → List Fetch → ℕ → Bool
delivered file [] x = false
delivered file (f ∷ l) x = if delivers file f x then true else delivered file l x

-- whether each of the n bytes from x on is delivered by one of the records
unfoldable pub complete : ℕ → List Fetch → ℕ → ℕ → Bool
complete file l x zero = true
complete file l x (suc n) = if delivered file l x then complete file l (suc x) n else false

-- the least of k, k + 1, .., k + more such that the n bytes from x on are complete after so many of
-- the records; never where none is
unfoldable pub least_from : ℕ → List Fetch → ℕ → ℕ → ℕ → ℕ → ℕ
least_from file l x n k zero = if complete file (take k l) x n then k else never
least_from file l x n k (suc more) = if complete file (take k l) x n then k else least_from file l x n (suc k) more

-- the first record, counted from 1, after which the n bytes from x on are complete; 0 where they
-- are before the first
abbrev pub first_after : ℕ → List Fetch → ℕ → ℕ → ℕ
first_after file l x n = least_from file l x n 0 (length l)

-- the same of a tensor row, in a file whose data starts at start
abbrev pub answer_of : ℕ → ℕ → List Fetch → List ℕ → ℕ
answer_of start file l row = first_after file l (start + offset_in row) (size_in row)

-- an answer for each row, where there is room for so many; or a refusal
unfoldable pub replayed : List (List ℕ) → ℕ → ℕ → List ℕ → ℕ → Answer (List ℕ)
replayed rows start file s room = if leb (length rows) room then seen (λ l. map (answer_of start file l) rows) (fetches s) else refused 45 0

-- the numbers of its refusals
abbrev pub replay_refusals : List ℕ
replay_refusals = 43 ∷ 44 ∷ 45 ∷ []

-- what the code answers beside the table
abbrev pub reply_to : {A : Type 0} → Answer A → Reply (Unit {0})
reply_to (accepted a q) = gives tt
reply_to (refused n p) = refuses n p
