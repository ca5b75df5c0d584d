-- Known numbers of traces and replays, computed by the checker. Assumes nothing.
use Prim.Native.Nat.{ℕ, zero, suc, ◌+◌, ◌^◌, ◌-◌}
use mathlib.Core.Path.{◌≡◌, refl}
use mathlib.Core.List.{List, [], ◌∷◌, ◌++◌}
use Rattle.fields.specs.Value.{number}
use Rattle.reading.specs.Each.{each}
use Rattle.reading.specs.Reading.{Answer, accepted, refused, run, ◌>>=◌, here, seen}
use Rattle.fetches.specs.Trace.{fetch, trace, fetches}
use Rattle.fetches.specs.Replay.{never, delivered, complete, least_from, replayed}

-- a record that says this length, and fetches so many bytes from an offset on; all are below 256
abbrev says : ℕ → ℕ → ℕ → List ℕ
says length offset count = 0 ∷ 0 ∷ 0 ∷ length ∷ 0 ∷ 0 ∷ 0 ∷ 0 ∷ 0 ∷ 0 ∷ 0 ∷ offset ∷ 0 ∷ 0 ∷ 0 ∷ 0 ∷ 0 ∷ 0 ∷ 0 ∷ count ∷ []

abbrev gets : ℕ → ℕ → List ℕ
gets offset count = says 16 offset count

-- the rows of a, of 20 bytes at 0, and b, of 6 bytes at 32, and the file that has them: its data
-- starts at 96
abbrev rows : List (List ℕ)
rows = (32 ∷ 1 ∷ 0 ∷ 1 ∷ 5 ∷ 1 ∷ 1 ∷ 1 ∷ 0 ∷ 20 ∷ []) ∷ (65 ∷ 1 ∷ 1 ∷ 1 ∷ 3 ∷ 1 ∷ 1 ∷ 1 ∷ 32 ∷ 6 ∷ []) ∷ []

abbrev after : List ℕ → Answer (List ℕ)
after s = replayed rows 96 134 s 2

-- Traces.

-- the version alone: no record
no_records : (fetches (1 ∷ []) ≡ accepted [] 1) × (after (1 ∷ []) ≡ accepted (never ∷ never ∷ []) 1)
unfolding replayed fetches trace fetch run each number here ◌>>=◌ seen least_from complete delivered
no_records = (refl, refl)

-- nothing, another version, another length, a record that is cut
empty-trace : after [] ≡ refused 43 0
unfolding replayed fetches trace fetch run each number here ◌>>=◌ seen
empty-trace = refl

version-2 : after (2 ∷ gets 96 38) ≡ refused 43 0
unfolding replayed fetches trace fetch run each number here ◌>>=◌ seen
version-2 = refl

length-17 : after (1 ∷ gets 96 38 ++ says 17 96 38) ≡ refused 43 21
unfolding replayed fetches trace fetch run each number here ◌>>=◌ seen
length-17 = refl

cut_record : after (1 ∷ gets 96 38 ++ 0 ∷ 0 ∷ []) ≡ refused 43 21
unfolding replayed fetches trace fetch run each number here ◌>>=◌ seen
cut_record = refl

-- a fetch of so many bytes from 2^64 - 1 on: of none it ends there, and of one after it, which is
-- refused before the fault that follows
abbrev at_the_last : ℕ → List ℕ
at_the_last count = 0 ∷ 0 ∷ 0 ∷ 16 ∷ 255 ∷ 255 ∷ 255 ∷ 255 ∷ 255 ∷ 255 ∷ 255 ∷ 255 ∷ 0 ∷ 0 ∷ 0 ∷ 0 ∷ 0 ∷ 0 ∷ 0 ∷ count ∷ []

ends-at_the_last : fetches (1 ∷ at_the_last 0) ≡ accepted (record { offset = 2 ^ 64 - 1; count = 0 } ∷ []) 21
unfolding fetches trace fetch run each number here ◌>>=◌
ends-at_the_last = refl

ends-after_the_last : after (1 ∷ at_the_last 1 ++ 0 ∷ []) ≡ refused 44 1
unfolding replayed fetches trace fetch run each number here ◌>>=◌ seen
ends-after_the_last = refl

-- of two faults the first decides
first_fault : after (1 ∷ says 17 96 38 ++ at_the_last 1) ≡ refused 43 1
unfolding replayed fetches trace fetch run each number here ◌>>=◌ seen
first_fault = refl

-- one answer too few, which is refused before a trace is looked at
no_room : (replayed rows 96 134 [] 1 ≡ refused 45 0) × (replayed [] 96 134 (1 ∷ []) 0 ≡ accepted [] 1)
unfolding replayed fetches trace fetch run each number here ◌>>=◌ seen
no_room = (refl, refl)

-- Replays.

-- a and b in one range; and each in its own, with the header and the gap between them
one_range : (after (1 ∷ gets 96 38) ≡ accepted (1 ∷ 1 ∷ []) 21) × (after (1 ∷ gets 128 6 ++ gets 0 120) ≡ accepted (2 ∷ 1 ∷ []) 41)
unfolding replayed fetches trace fetch run each number here ◌>>=◌ seen least_from complete delivered
one_range = (refl, refl)

-- both byte by byte, the last first: 6 records for b and 20 for a
abbrev backwards_from : ℕ → ℕ → List ℕ
backwards_from x zero = []
backwards_from x (suc n) = gets (x + n) 1 ++ backwards_from x n

backwards : after (1 ∷ backwards_from 128 6 ++ backwards_from 96 20) ≡ accepted (26 ∷ 6 ∷ []) 521
unfolding replayed fetches trace fetch run each number here ◌>>=◌ seen least_from complete delivered
backwards = refl

-- all but the last of them
backwards_but_one : after (1 ∷ backwards_from 128 6 ++ backwards_from 97 19) ≡ accepted (never ∷ 6 ∷ []) 501
unfolding replayed fetches trace fetch run each number here ◌>>=◌ seen least_from complete delivered
backwards_but_one = refl

-- a with a hole, the byte 106; and with the hole filled by the third record
with_a_hole : (after (1 ∷ gets 96 10 ++ gets 107 27) ≡ accepted (never ∷ 2 ∷ []) 41) × (after (1 ∷ gets 96 10 ++ gets 107 27 ++ gets 106 1) ≡ accepted (3 ∷ 2 ∷ []) 61)
unfolding replayed fetches trace fetch run each number here ◌>>=◌ seen least_from complete delivered
with_a_hole = (refl, refl)

-- past the file's end: a range that goes on after it, and a file without the last byte of b
past_the_end : (after (1 ∷ gets 90 200) ≡ accepted (1 ∷ 1 ∷ []) 21) × (replayed rows 96 133 (1 ∷ gets 90 200) 2 ≡ accepted (1 ∷ never ∷ []) 21)
unfolding replayed fetches trace fetch run each number here ◌>>=◌ seen least_from complete delivered
past_the_end = (refl, refl)

-- a twice, and then b: what is delivered again counts once
twice : after (1 ∷ gets 96 20 ++ gets 96 20 ++ gets 128 6) ≡ accepted (1 ∷ 3 ∷ []) 61
unfolding replayed fetches trace fetch run each number here ◌>>=◌ seen least_from complete delivered
twice = refl

-- a fetch of no bytes delivers none
no_bytes : after (1 ∷ gets 128 0 ++ gets 96 0) ≡ accepted (never ∷ never ∷ []) 41
unfolding replayed fetches trace fetch run each number here ◌>>=◌ seen least_from complete delivered
no_bytes = refl

-- a tensor of size 0 is complete before the first record, also after the file's end
abbrev of_no_bytes : ℕ → List (List ℕ)
of_no_bytes offset = (32 ∷ 1 ∷ 31 ∷ 1 ∷ 5 ∷ 1 ∷ 1 ∷ 1 ∷ offset ∷ 0 ∷ []) ∷ []

size-0 : (replayed (of_no_bytes 32) 96 134 (1 ∷ []) 1 ≡ accepted (0 ∷ []) 1) × (replayed (of_no_bytes 64) 96 134 (1 ∷ gets 0 134) 1 ≡ accepted (0 ∷ []) 21)
unfolding replayed fetches trace fetch run each number here ◌>>=◌ seen least_from complete delivered
size-0 = (refl, refl)
