-- Questions about a header: the value of a key, the string of a key, the file's type. Of equal keys
-- the last decides.
use Rattle.std.specs.Prelude.{ℕ, List, [], ◌∷◌, leb, if◌then◌else◌, Option, Some, None}
use Rattle.reading.specs.Reading.{run, seen}
use Rattle.reading.specs.Replies.{Reply, gives, refuses, reply_of}
use Rattle.reading.specs.Each.{fold}
use Rattle.reading.specs.Ceilings.{under, full}
use Rattle.scalars.specs.Scalars.{natural_of}
use Rattle.values.specs.declared.Value.{Value}
use Rattle.values.specs.declared.Value.TheVariants.{Single, Text, Array}
use Rattle.values.specs.declared.Entry.{Entry}
use Rattle.values.specs.Format.{is_word}
use Rattle.values.specs.Contents.{bytes_at, inside_of}
use Rattle.start.specs.Format.{enough}
use Rattle.header.specs.Format.{header}

-- what is found of a key, after one entry more
abbrev pub sought : List ℕ → List ℕ → Option Entry → Entry → Option Entry
sought key s z e = if is_word key (bytes_at s e.key) then Some e else z

-- the last entry of a key, or that there is none; or the whole reader's refusal. The whole header
-- is read, with a cap of 3
abbrev pub lookup : List ℕ → List ℕ → Reply (Option Entry)
lookup key s = reply_of (seen (λ w. fold (sought key s) None w.entries) (run (under full (header enough 3)) s 0))

-- the string of a value; of any other value nothing
abbrev pub string_in : List ℕ → Value → List ℕ
string_in s (Single x) = []
string_in s (Text a) = inside_of s a
string_in s (Array a) = []

-- the string that a lookup found, and nothing at 'absent', at another type and at a refusal
abbrev pub string_of : List ℕ → Reply (Option Entry) → List ℕ
string_of s (gives (Some e)) = string_in s e.value
string_of s (gives None) = []
string_of s (refuses n p) = []

-- the status of a value that was found: 0 a string, 101 another type
abbrev pub type_status : Value → List ℕ
type_status (Single x) = 101 ∷ 0 ∷ []
type_status (Text a) = 0 ∷ 0 ∷ []
type_status (Array a) = 101 ∷ 0 ∷ []

-- the status of a lookup: that of its value, 100 where it is absent, else the refusal's number with
-- its place
abbrev pub string_status : Reply (Option Entry) → List ℕ
string_status (gives (Some e)) = type_status e.value
string_status (gives None) = 100 ∷ 0 ∷ []
string_status (refuses n p) = n ∷ p ∷ []

-- "general.architecture"
abbrev pub architecture_key : List ℕ
architecture_key = 103 ∷ 101 ∷ 110 ∷ 101 ∷ 114 ∷ 97 ∷ 108 ∷ 46 ∷ 97 ∷ 114 ∷ 99 ∷ 104 ∷ 105 ∷ 116 ∷ 101 ∷ 99 ∷ 116 ∷ 117 ∷ 114 ∷ 101 ∷ []

-- "general.file_type"
abbrev pub file_type_key : List ℕ
file_type_key = 103 ∷ 101 ∷ 110 ∷ 101 ∷ 114 ∷ 97 ∷ 108 ∷ 46 ∷ 102 ∷ 105 ∷ 108 ∷ 101 ∷ 95 ∷ 116 ∷ 121 ∷ 112 ∷ 101 ∷ []

-- the file type that a number says: the table has the numbers 0 to 24
abbrev pub file_type_of : Option ℕ → Option ℕ
file_type_of (Some n) = if leb n 24 then Some n else None
file_type_of None = None

-- the file type that a value says: only an integer that is not below 0 says one
abbrev pub value_file_type : Value → Option ℕ
value_file_type (Single x) = file_type_of (natural_of x)
value_file_type (Text a) = None
value_file_type (Array a) = None

-- the file's type, from the lookup of its key
abbrev pub file_type_in : Reply (Option Entry) → Reply (Option ℕ)
file_type_in (gives (Some e)) = gives (value_file_type e.value)
file_type_in (gives None) = gives None
file_type_in (refuses n p) = refuses n p
