-- A trace of fetches: the version byte, 1, and then records of 20 bytes. All numbers are
-- big-endian.
use Rattle.std.specs.Prelude.{ℕ, ◌+◌, ◌-◌, ◌^◌, ◌/◌, List, true, eqb, ltb, length, take, drop, if◌then◌else◌}
use Rattle.reading.specs.Each.{times}
use Rattle.reading.specs.Reading.{Reading, done, Answer, accepted, refused, run, ◌>>=◌, ◌>>◌, here, next, check}
use Rattle.fields.specs.Value.{value, number}
use Rattle.fetches.specs.declared.Fetch.{Fetch}

-- what 20 bytes fetch: the length of what follows comes first, then the offset, then the count
abbrev pub fetch_of : List ℕ → Fetch
fetch_of bs = record { offset = value true (take 8 (drop 4 bs)); count = value true (take 8 (drop 12 bs)) }

-- what the 20 bytes at a place fetch
abbrev pub fetch_at : List ℕ → ℕ → Fetch
fetch_at s p = fetch_of (take 20 (drop p s))

-- where the bytes of a fetch end in the file
abbrev pub fetch_end : Fetch → ℕ
fetch_end f = f.offset + f.count

-- a record: a length of 16, and a fetch that ends at 2^64 - 1 at most; its refusals are at its
-- start
unfoldable pub fetch : Reading Fetch
fetch = do
  at ← here
  bs ← next 20 done
  check (eqb (value true (take 4 bs)) 16) 43 at
  check (ltb (fetch_end (fetch_of bs)) (2 ^ 64)) 44 at
  done (fetch_of bs)

-- the version, and n records
unfoldable pub trace : ℕ → Reading (List Fetch)
trace n = do
  version ← number 1 true
  check (eqb version 1) 43 0
  times n fetch

-- how many records start in n bytes: of the last there may be a part only
abbrev pub starting : ℕ → ℕ
starting n = (n + 19) / 20

-- a field that is not wholly there, refusal 1, is refusal 43 in a trace
abbrev pub cut_is43 : {A : Type 0} → Answer A → Answer A
cut_is43 (accepted a q) = accepted a q
cut_is43 (refused n p) = refused (if eqb n 1 then 43 else n) p

-- the fetches of the trace s, in order; or a refusal
unfoldable pub fetches : List ℕ → Answer (List Fetch)
fetches s = cut_is43 (run (trace (starting (length s - 1))) s 0)
