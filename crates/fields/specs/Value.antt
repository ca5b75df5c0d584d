-- The number that bytes stand for, in either byte order, and the field that holds one.
use Rattle.std.specs.Prelude.{ℕ, ◌+◌, ◌*◌, List, [], ◌∷◌, reverse, Bool, true, false}
use Rattle.reading.specs.Reading.{Reading, done, next}
use Rattle.fields.specs.declared.Width.{Width}
use Rattle.fields.specs.declared.Width.TheVariants.{One, Two, Four, Eight}

-- a width in bytes
abbrev pub width_of : Width → ℕ
width_of One = 1
width_of Two = 2
width_of Four = 4
width_of Eight = 8

-- the number that bytes stand for, the least byte first
abbrev pub le_value : List ℕ → ℕ
le_value [] = 0
le_value (b ∷ bs) = b + 256 * le_value bs

-- the byte order of a file: big turns the bytes round
abbrev pub turn : Bool → List ℕ → List ℕ
turn true bs = reverse bs
turn false bs = bs

-- the number, in the byte order of the file
abbrev pub value : Bool → List ℕ → ℕ
value big bs = le_value (turn big bs)

-- a number of two halves, of which each is below unit
abbrev pub halves : Bool → ℕ → ℕ → ℕ → ℕ
halves true unit first second = second + unit * first
halves false unit first second = first + unit * second

-- a number of w bytes
unfoldable pub number : ℕ → Bool → Reading ℕ
number w big = next w (λ bs. done (value big bs))
