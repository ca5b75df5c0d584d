-- A reader of a format that takes only versions and kinds up to its ceilings.
use Rattle.std.specs.Prelude.{ℕ, ◌+◌, List, [], ◌∷◌, ◌++◌, Bool, true, false, ◌≡◌, length, take, drop, leb, if◌then◌else◌}
use Rattle.reading.specs.declared.Limits.{Limits}
use Rattle.reading.specs.Reading.{Which, a_version, a_kind, Reading, done, refuse, place, field, known, Answer, refused}

-- the highest version, or the highest kind
abbrev pub ceiling : Limits → Which → ℕ
ceiling l a_version = l.versions
ceiling l a_kind = l.kinds

-- the refusal of one above its ceiling
abbrev pub too_new : Which → ℕ
too_new a_version = 5
too_new a_kind = 12

-- the program as a reader with the ceilings l has it: at a mark above its ceiling it refuses
unfoldable pub under : {A : Type 0} → Limits → Reading A → Reading A
under l (done a) = done a
under l (refuse n p) = refuse n p
under l (place k) = place (λ p. under l (k p))
under l (field n w k) = field n w (λ bs. under l (k bs))
under l (known x v p m) = if leb v (ceiling l x) then under l m else refuse (too_new x) p

-- a value that was found known: which, the value, and its place
pub record Mark : Type 0 where
  pub which : Which
  pub value : ℕ
  pub place : ℕ

-- the marks that a program reaches, in order
unfoldable pub marks : {A : Type 0} → Reading A → List ℕ → ℕ → List Mark
marks (done a) s at = []
marks (refuse n p) s at = []
marks (place k) s at = marks (k at) s at
marks (field n w k) s at = if leb (at + w) (length s) then marks (k (take n (take w (drop at s)))) s (at + w) else []
marks (known x v p m) s at = record { which = x; value = v; place = p } ∷ marks m s at

-- whether a mark is at most its ceiling
abbrev pub within : Limits → Mark → Bool
within l k = leb k.value (ceiling l k.which)

-- the refusal at the first mark above its ceiling, if there is one, and else r
abbrev pub or_too_new : {A : Type 0} → Limits → List Mark → Answer A → Answer A
or_too_new l [] r = r
or_too_new l (k ∷ ks) r = if within l k then or_too_new l ks r else refused (too_new k.which) k.place

-- whether none is above its ceiling
abbrev pub all_within : Limits → List Mark → Bool
all_within l [] = true
all_within l (k ∷ ks) = if within l k then all_within l ks else false

-- k is the first of the marks ks that is above its ceiling: those before it are not
pub record FirstAbove (l : Limits) (ks : List Mark) (k : Mark) : Type 0 where
  pub before : List Mark
  pub after : List Mark
  pub order : ks ≡ before ++ (k ∷ after)
  pub low : all_within l before ≡ true
  pub high : within l k ≡ false

-- the program has no mark above its ceiling, whatever it reads
unfoldable pub Low : {A : Type 0} → Limits → Reading A → Type 0
Low l (done a) = Unit {0}
Low l (refuse n p) = Unit {0}
Low l (place k) = (p : ℕ) → Low l (k p)
Low l (field n w k) = (bs : List ℕ) → Low l (k bs)
Low l (known x v p m) = (leb v (ceiling l x) ≡ true) × Low l m

-- the ceilings of the whole format
abbrev pub full : Limits
full = record { versions = 3; kinds = 39 }
