-- A number as bytes, at every width and in both orders: read back what was written, and written
-- again what was read. Assumes nothing.
use Prim.Native.Nat.{ℕ, zero, suc, ◌+◌, ◌-◌, ◌*◌, ◌/◌, ◌%◌, ◌^◌, ◌≤◌, ◌<◌}
use mathlib.Core.Path.{◌≡◌, refl, sym, ap, ◌∙◌}
use mathlib.Core.List.{List, [], ◌∷◌, ◌++◌, reverse, append_assoc, reverse-cons, reverse-reverse}
use mathlib.Core.Bool.{Bool, true, false}
use native.Mathlib.Omega.{arith}
use native.Mathlib.Nat.{pow-suc}
use lib.ListN.{length, take, drop, set, length-reverse, length-set, take-append-drop}
use lib.Seq.{drop-cons, take-suc-set, drop-set-lt, get_or-set_same}
use Rattle.reading.specs.Back.{All}
use Rattle.fields.specs.Bytes.{Byte, little, bytes_of}
use Rattle.fields.specs.Value.{le_value, turn, value}

pub length-little : (w v : ℕ) → length (little w v) ≡ w
unfolding little
length-little zero v = refl
length-little (suc w) v = ap suc (length-little w (v / 256))

pub length-turn : (big : Bool) (l : List ℕ) → length (turn big l) ≡ length l
length-turn false l = refl
length-turn true l = length-reverse l

pub length_bytes_of : (big : Bool) (w v : ℕ) → length (bytes_of big w v) ≡ w
unfolding bytes_of
length_bytes_of big w v = length-turn big (little w v) ∙ length-little w v

pub turn-turn : (big : Bool) (l : List ℕ) → turn big (turn big l) ≡ l
turn-turn false l = refl
turn-turn true l = reverse-reverse l

pub le_value-little : (w v : ℕ) → v < 256 ^ w → le_value (little w v) ≡ v
unfolding little
le_value-little zero v h = omega arith
le_value-little (suc w) v h =
    let ih = le_value-little w (v / 256) (omega (arith, pow-suc 256 w)) in
    omega arith

-- a number that fits its width is read back, in the order that it was written in
pub value-bytes : (big : Bool) (w v : ℕ) → v < 256 ^ w → value big (bytes_of big w v) ≡ v
unfolding bytes_of
value-bytes big w v h = ap le_value (turn-turn big (little w v)) ∙ le_value-little w v h

-- where the n-th byte of w stands, counted from the greatest
unfoldable pub spot : Bool → ℕ → ℕ → ℕ
spot true w n = n
spot false w n = w - 1 - n

pub spot-big : {big : Bool} (w n : ℕ) → big ≡ true → n ≡ spot big w n
unfolding spot
spot-big w n h = rw h

pub spot-little : {big : Bool} (w n : ℕ) → big ≡ false → w - 1 - n ≡ spot big w n
unfolding spot
spot-little w n h = rw h

-- what is left to do, from w bytes of which n are to be written, x the number that they hold: o is
-- what was written so far
pub rest : Bool → ℕ → ℕ → ℕ → List ℕ → List ℕ
rest true w n x o = reverse (little n x) ++ drop n o
rest false w n x o = take (w - n) o ++ (little n x ++ drop w o)

-- a stored byte stands in front of what follows it
pub drop-set : (o : List ℕ) (n b : ℕ) → n < length o → drop n (set o n b) ≡ b ∷ drop (suc n) o
drop-set o n b h =
    let h' : n < length (set o n b) = omega (arith, length-set o n b) in
    rw (drop-cons (set o n b) n 0 h', get_or-set_same o n b 0 h, drop-set-lt (suc n) o n b (omega arith))

pub rest-start : (big : Bool) (w v : ℕ) (o : List ℕ) → rest big w w v o ≡ bytes_of big w v ++ drop w o
unfolding rest bytes_of
rest-start true w v o = refl
rest-start false w v o =
    let e : w - w ≡ 0 = omega arith in
    rw e

pub rest_end : (big : Bool) (w x : ℕ) (o : List ℕ) → rest big w 0 x o ≡ o
unfolding rest little
rest_end true w x o = refl
rest_end false w x o =
    let e : w - 0 ≡ w = omega arith in
    rw e (take-append-drop w o)

pub rest_step : (big : Bool) (w n x : ℕ) (o : List ℕ) → n < w → w ≤ length o →
    rest big w n (x / 256) (set o (spot big w n) (x % 256)) ≡ rest big w (suc n) x o
unfolding rest little spot
rest_step true w n x o h k =
    rw (drop-set o n (x % 256) (omega arith), reverse-cons (x % 256) (little n (x / 256)), append_assoc)
rest_step false w n x o h k =
    let i : ℕ = w - 1 - n in
    let e : w - n ≡ suc i = omega arith in
    let e' : w - suc n ≡ i = omega arith in
    rw (e, e', take-suc-set o i (x % 256) (omega arith), drop-set-lt w o i (x % 256) (omega arith), append_assoc)

-- a turn of the loop, in the numbers that the code has
pub rest-turn : (big : Bool) (w n x : ℕ) (o : List ℕ) → 0 < n → n ≤ w → w ≤ length o →
    rest big w (n - 1) (x / 256) (set o (spot big w (n - 1)) (x % 256)) ≡ rest big w n x o
rest-turn big w n x o p h k =
    let e : suc (n - 1) ≡ n = omega arith in
    rest_step big w (n - 1) x o (omega arith) k ∙ rw e

-- what is taken of bytes, or joined of them, is bytes
pub all_take : (n : ℕ) (l : List ℕ) → All Byte l → All Byte (take n l)
all_take zero l h = tt
all_take (suc n) [] h = tt
all_take (suc n) (x ∷ l) h = (h.0, all_take n l h.1)

pub all_drop : (n : ℕ) (l : List ℕ) → All Byte l → All Byte (drop n l)
all_drop zero l h = h
all_drop (suc n) [] h = tt
all_drop (suc n) (x ∷ l) h = all_drop n l h.1

all_append : (l k : List ℕ) → All Byte l → All Byte k → All Byte (l ++ k)
all_append [] k h g = g
all_append (x ∷ l) k h g = (h.0, all_append l k h.1 g)

all-reverse : (l : List ℕ) → All Byte l → All Byte (reverse l)
all-reverse [] h = tt
all-reverse (x ∷ l) h = rw (reverse-cons x l) (all_append (reverse l) (x ∷ []) (all-reverse l h.1) (h.0, tt))

all-turn : (big : Bool) (l : List ℕ) → All Byte l → All Byte (turn big l)
all-turn true l h = all-reverse l h
all-turn false l h = h

-- bytes stand for a number below the power of their count
le_small : (l : List ℕ) → All Byte l → le_value l < 256 ^ length l
le_small [] h = omega arith
le_small (x ∷ l) h = omega (arith, h.0, le_small l h.1, pow-suc 256 (length l))

pub value-small : (big : Bool) (l : List ℕ) → All Byte l → value big l < 256 ^ length l
value-small big l h = rw (length-turn big l) at (le_small (turn big l) (all-turn big l h))

-- bytes that were read are written again
little-value : (l : List ℕ) → All Byte l → little (length l) (le_value l) ≡ l
unfolding little
little-value [] h = refl
little-value (x ∷ l) h =
    let byte : x < 256 = h.0 in
    let r : (x + 256 * le_value l) % 256 ≡ x = omega arith in
    let q : (x + 256 * le_value l) / 256 ≡ le_value l = omega arith in
    rw (r, q, little-value l h.1)

pub bytes-value : (big : Bool) (l : List ℕ) → All Byte l → bytes_of big (length l) (value big l) ≡ l
unfolding bytes_of
bytes-value big l h =
    ap (λ n. turn big (little n (le_value (turn big l)))) (sym (length-turn big l)) ∙ ap (turn big) (little-value (turn big l) (all-turn big l h)) ∙ turn-turn big l
