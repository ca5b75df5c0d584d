-- A format as a program of fields, and what running it over bytes finds.
use Rattle.std.specs.Prelude.{ℕ, ◌+◌, List, Bool, true, false, not, length, take, drop, leb, eqb, if◌then◌else◌}

-- what has a ceiling
pub data Which : Type 0 where
  a_version : Which
  a_kind : Which

-- A program that reads an A. `done a`: nothing more is read, and a is what was read. `refuse n p`:
-- refusal n, at the place p. `place k`: k of the place that is reached. `field l w k`: a field of w
-- bytes, and then k of its first l; nothing looks at the rest. `known x v p m`: a version or a kind
-- v, found known at the place p, and then m
pub data Reading (A : Type 0) : Type 0 where
  done : A → Reading A
  refuse : ℕ → ℕ → Reading A
  place : (ℕ → Reading A) → Reading A
  field : (looked width : ℕ) → (List ℕ → Reading A) → Reading A
  known : Which → ℕ → ℕ → Reading A → Reading A

-- what was read, with the place after it; or a refusal's number and place
pub data Answer (A : Type 0) : Type 0 where
  accepted : A → ℕ → Answer A
  refused : ℕ → ℕ → Answer A

-- the program over the bytes s, from the place at. A field that is not wholly there is refusal 1,
-- at the field's place
unfoldable pub run : {A : Type 0} → Reading A → List ℕ → ℕ → Answer A
run (done a) s at = accepted a at
run (refuse n p) s at = refused n p
run (place k) s at = run (k at) s at
run (field l w k) s at = if leb (at + w) (length s) then run (k (take l (take w (drop at s)))) s (at + w) else refused 1 at
run (known x v p m) s at = run m s at

-- one program and then another, which is given what the first read
unfoldable pub ◌>>=◌ : {A B : Type 0} → Reading A → (A → Reading B) → Reading B
done a >>= f = f a
refuse n p >>= f = refuse n p
place k >>= f = place (λ p. k p >>= f)
field l w k >>= f = field l w (λ bs. k bs >>= f)
known x v p m >>= f = known x v p (m >>= f)

infixl 20 ◌>>=◌
-- one program and then another, which needs nothing of the first
abbrev pub ◌>>◌ : {A B : Type 0} → Reading A → Reading B → Reading B
m >> n = m >>= (λ a. n)

infixl 20 ◌>>◌
-- the place that is reached
unfoldable pub here : Reading ℕ
here = place done

-- a field of w bytes, all of them looked at
abbrev pub next : {A : Type 0} → ℕ → (List ℕ → Reading A) → Reading A
next w k = field w w k

-- w bytes that nothing looks at
abbrev pub skip : {A : Type 0} → ℕ → Reading A → Reading A
skip w m = field 0 w (λ bs. m)

-- goes on where the test holds, and else is refusal n at the place p
abbrev pub check : Bool → ℕ → ℕ → Reading (Unit {0})
check b n p = if b then done tt else refuse n p

-- a version or a kind that was found known
abbrev pub mark : Which → ℕ → ℕ → Reading (Unit {0})
mark x v p = known x v p (done tt)

-- an answer, and then what goes on from it
unfoldable pub and_then : {A B : Type 0} → Answer A → (A → ℕ → Answer B) → Answer B
and_then (accepted a p) f = f a p
and_then (refused n p) f = refused n p

-- an answer, of which only what view shows is kept
unfoldable pub seen : {A C : Type 0} → (A → C) → Answer A → Answer C
seen view (accepted a q) = accepted (view a) q
seen view (refused n p) = refused n p

-- an answer of which only the place is kept
abbrev pub passed : {A : Type 0} → Answer A → Answer (Unit {0})
passed r = seen (λ a. tt) r

-- whether an answer is no refusal
abbrev pub is_accepted : {A : Type 0} → Answer A → Bool
is_accepted (accepted a p) = true
is_accepted (refused n p) = false

-- whether an answer stands whatever bytes follow: all but refusal 1
abbrev pub final : {A : Type 0} → Answer A → Bool
final (accepted a p) = true
final (refused n p) = not (eqb n 1)
