-- A program whose bytes come in pieces of any length.
use Rattle.std.specs.Prelude.{ℕ, ◌+◌, ◌-◌, List, [], ◌∷◌, ◌++◌, length, take, drop, leb, if◌then◌else◌}
use Rattle.reading.specs.Reading.{Reading, done, refuse, place, field, known, Answer, accepted, refused}

-- The state between two pieces: an answer; or, in a field, what follows it, its place, how many of
-- its bytes are looked at, its width, those looked at that came, and how many came
pub data Stage (A : Type 0) : Type 0 where
  over : Answer A → Stage A
  wants : (List ℕ → Reading A) → (at looked width : ℕ) → (kept : List ℕ) → (came : ℕ) → Stage A

-- the program at the place at, with the bytes bs from there
unfoldable pub feed : {A : Type 0} → Reading A → ℕ → List ℕ → Stage A
feed (done a) at bs = over (accepted a at)
feed (refuse n p) at bs = over (refused n p)
feed (place k) at bs = feed (k at) at bs
feed (field l w k) at bs = if leb w (length bs) then feed (k (take l (take w bs))) (at + w) (drop w bs) else wants k at l w (take l bs) (length bs)
feed (known x v p m) at bs = feed m at bs

-- one piece more
unfoldable pub more : {A : Type 0} → Stage A → List ℕ → Stage A
more (over r) bs = over r
more (wants k at l w kept n) bs =
    if leb w (n + length bs) then feed (k (take l (kept ++ take (w - n) bs))) (at + w) (drop (w - n) bs)
    else wants k at l w (take l (kept ++ bs)) (n + length bs)

-- the answer where nothing follows
unfoldable pub finish : {A : Type 0} → Stage A → Answer A
finish (over r) = r
finish (wants k at l w kept n) = refused 1 at

-- all pieces, one after the other
unfoldable pub mores : {A : Type 0} → Stage A → List (List ℕ) → Stage A
mores g [] = g
mores g (bs ∷ rest) = mores (more g bs) rest

-- the pieces joined
unfoldable pub joined : List (List ℕ) → List ℕ
joined [] = []
joined (bs ∷ rest) = bs ++ joined rest
