-- What stands before the records of a header: magic, version, and the two counts. Each check comes
-- as soon as its field is read. The refusals:
--    2  the magic of an older format, at 0
--    3  any other magic that is not this one's, at 0
--    4  a version other than 1, 2 and 3, at the version; `mark` says that one was found known (5
--       above a reader's ceiling)
--    6  more tensors, or more entries, than rows, at that count, once both are read
use Rattle.std.specs.Prelude.{ℕ, Bool, true, false, leb, eqb, if◌then◌else◌}
use Rattle.reading.specs.Reading.{a_version, Reading, done, refuse, ◌>>=◌, ◌>>◌, here, check, mark}
use Rattle.fields.specs.Value.{number}
use Rattle.values.specs.declared.Dialect.{Dialect}
use Rattle.kinds.specs.Shape.{greatest}
use Rattle.values.specs.Format.{size}
use Rattle.start.specs.declared.Rooms.{Rooms}
use Rattle.start.specs.declared.Start.{Start}

-- the four bytes that a file begins with, read as a little-endian number
abbrev pub little_magic : ℕ
little_magic = 0x46554747

-- the same bytes turned round: all numbers of the file are too
abbrev pub big_magic : ℕ
big_magic = 0x47475546

-- the magics of the formats before this one
abbrev pub older_magic : ℕ → Bool
older_magic m = if eqb m 0x67676d6c then true else if eqb m 0x67676d66 then true else if eqb m 0x67676a74 then true else eqb m 0x67676c61

-- the magic: whether its bytes are turned round
unfoldable pub magic : Reading Bool
magic = do
  p ← here
  m ← number 4 false
  if eqb m little_magic then done false
      else if eqb m big_magic then done true
      else if older_magic m then refuse 2 p
      else refuse 3 p

-- versions 1 to 3
abbrev pub known_version : ℕ → Bool
known_version v = if eqb v 0 then false else leb v 3

-- the forms that a file can have: little-endian, and big-endian with the magic turned round too, in
-- versions 1 to 3; big-endian behind a magic that is not turned round in version 3 alone
abbrev pub known_dialect : Dialect → Bool
known_dialect k =
    if k.big then (if k.turned then known_version k.version else eqb k.version 3)
    else if k.turned then false
    else known_version k.version

-- version 3 in four big-endian bytes, read as a little-endian number
abbrev pub turned_three : ℕ
turned_three = 0x03000000

-- what a version's four bytes say, read in the byte order of the magic: behind a magic that is not
-- turned round they may be a big-endian 3, and then all numbers after it are big-endian too
abbrev pub dialect_by : Bool → ℕ → Dialect
dialect_by turned v =
    if turned then record { version = v; big = true; turned = true }
    else if eqb v turned_three then record { version = 3; big = true; turned = false }
    else record { version = v; big = false; turned = false }

-- the version, and with it the byte order of all that follows
unfoldable pub version : Bool → Reading Dialect
version turned = do
  p ← here
  v ← number 4 turned
  check (known_dialect (dialect_by turned v)) 4 p
  mark a_version (dialect_by turned v).version p
  done (dialect_by turned v)

-- rows for any count that 64 bits hold, so that none is refused because there are too few
abbrev pub enough : Rooms
enough = record { entries = greatest; tensors = greatest }

-- the two counts, where there are rows for as many
unfoldable pub counts : Rooms → Dialect → Reading Start
counts rooms k = do
  p ← here
  n ← size k
  q ← here
  m ← size k
  check (leb n rooms.tensors) 6 p
  check (leb m rooms.entries) 6 q
  done (record { dialect = k; tensors = n; entries = m })

-- all that stands before the first record
unfoldable pub start : Rooms → Reading Start
start rooms = do
  turned ← magic
  k ← version turned
  counts rooms k
