-- The table row after row: tests over its kinds that the checker computes. They show what an arm, a
-- range and the rest of a match hold, and what is so of the blocks of all kinds. Assumes nothing.
use mathlib.Core.Path.{◌≡◌, refl, sym, ap, subst, ◌∙◌}
use mathlib.Core.Bool.{Bool, true, false, ◌&&◌, ◌||◌}
use mathlib.Core.List.{List, [], ◌∷◌}
use mathlib.Core.Logic.{inl, inr}
use Prim.Native.Nat.{ℕ, zero, suc, ◌+◌, ◌-◌, ◌%◌, ◌≤◌, ◌<◌}
use native.Mathlib.Omega.{arith}
use denote.Floats.{is_true}
use lib.Dec.{T, ltb, ltb→lt, eqb, eqb→eq}
use lib.ListN.{length, get_or-eq_default}
use mir.Val.{has_key}
use mir.Facts.{and_yes, or_yes}
use types.Run.{OneOf, hit}
use borrow.Author.Tests.{eq-eqb, eqb-true, ltb-true, ltb-false}
use Rattle.kinds.specs.declared.Block.{Block}
use Rattle.kinds.specs.Table.{no_such_kind, kind_table, block_of, known_kind, written_kind}

-- the test f passes at each number below n
abbrev every : (ℕ → Bool) → ℕ → Bool
every f zero = true
every f (suc n) = f 0 && every (λ k. f (suc k)) n

-- so it passes at each of them by itself
at : (f : ℕ → Bool) (n : ℕ) → T (every f n) → (k : ℕ) → k < n → T (f k)
at f zero t k h = absurd (omega arith)
at f (suc n) t zero h = (and_yes (f 0) (every (λ k. f (suc k)) n) t).0
at f (suc n) t (suc k) h = at (λ k. f (suc k)) n (and_yes (f 0) (every (λ k. f (suc k)) n) t).1 k (omega arith)

-- past the table there is no kind
pub past : (k : ℕ) → length kind_table ≤ k → no_such_kind ≡ block_of k
unfolding block_of
past k h = sym (get_or-eq_default kind_table no_such_kind h)

-- Matches. A column is one of the two numbers of a block.

-- the keys of an arm, of which each has n in the column
abbrev all_have : (Block → ℕ) → ℕ → List ℕ → Bool
all_have column n [] = true
all_have column n (k ∷ ks) = eqb n (column (block_of k)) && all_have column n ks

pub in_arm : (column : Block → ℕ) (n : ℕ) (ks : List ℕ) → T (all_have column n ks) → (x : ℕ) → OneOf ks x → n ≡ column (block_of x)
in_arm column n [] t x e = absurd e
in_arm column n (k ∷ []) t x e = rw e (eqb→eq n (column (block_of k)) (and_yes (eqb n (column (block_of k))) true t).0)
in_arm column n (k ∷ next ∷ ks) t x e =
    let both = and_yes (eqb n (column (block_of k))) (all_have column n (next ∷ ks)) t in
    elim e [
      | inl h ↦ rw h (eqb→eq n (column (block_of k)) both.0)
      | inr h ↦ in_arm column n (next ∷ ks) both.1 x h
    ]

-- whether x is a key of a match's arms
abbrev keyed : List (List ℕ) → ℕ → Bool
keyed [] x = false
keyed (ks ∷ arms) x = has_key ks x || keyed arms x

-- x is a key of none, as the match tells it after the arms that N speaks of
abbrev pub Left : Type 0 → List (List ℕ) → ℕ → Type 0
Left N [] x = N
Left N (ks ∷ arms) x = Left (N × (OneOf ks x → ⊥)) arms x

told-before : (arms : List (List ℕ)) (N : Type 0) (x : ℕ) → Left N arms x → N
told-before [] N x l = l
told-before (ks ∷ arms) N x l = (told-before arms (N × (OneOf ks x → ⊥)) x l).0

not-keyed : (arms : List (List ℕ)) (N : Type 0) (x : ℕ) → Left N arms x → T (keyed arms x) → ⊥
not-keyed [] N x l t = t
not-keyed (ks ∷ arms) N x l t =
    elim (or_yes (has_key ks x) (keyed arms x) t) [
      | inl h ↦ (told-before arms (N × (OneOf ks x → ⊥)) x l).1 (hit ks x h)
      | inr h ↦ not-keyed arms (N × (OneOf ks x → ⊥)) x l h
    ]

-- where x is a key or m is n, and x is no key
pub keyed_or_same : (arms : List (List ℕ)) (x n m : ℕ) → Left (Unit {0}) arms x → T (keyed arms x || eqb n m) → n ≡ m
keyed_or_same arms x n m l t =
    elim (or_yes (keyed arms x) (eqb n m) t) [
      | inl h ↦ absurd (not-keyed arms (Unit {0}) x l h)
      | inr h ↦ eqb→eq n m h
    ]

module _ (column : Block → ℕ) (arms : List (List ℕ)) where
  -- kinds in a row, of which each that is no key has n in the column
  abbrev others_have : ℕ → ℕ → ℕ → Bool
  others_have n from k = keyed arms (from + k) || eqb n (column (block_of (from + k)))

  pub in_range : (n from count : ℕ) → T (every (others_have n from) count) → (x : ℕ) → from ≤ x → x < from + count → Left (Unit {0}) arms x → n ≡ column (block_of x)
  in_range n from count t x low high l =
      let e : from + (x - from) ≡ x = omega arith in
      keyed_or_same arms x n (column (block_of x)) l
      (subst (λ y. T (keyed arms y || eqb n (column (block_of y)))) e (at (others_have n from) count t (x - from) (omega arith)))

  -- all kinds from there on, and past the table
  left-over-by : (t : Bool) (n from : ℕ) → n ≡ column no_such_kind → T (every (others_have n from) (length kind_table - from)) → (x : ℕ) → ltb x (length kind_table) ≡ t → from ≤ x → Left (Unit {0}) arms x
      → n ≡ column (block_of x)
  left-over-by true n from none c x i low l =
      let below : x < length kind_table = ltb-true x (length kind_table) i in
      in_range n from (length kind_table - from) c x low (omega arith) l
  left-over-by false n from none c x i low l = none ∙ ap column (past x (ltb-false x (length kind_table) i))

  pub left_over : (n from : ℕ) → n ≡ column no_such_kind → T (every (others_have n from) (length kind_table - from)) → (x : ℕ) → from ≤ x → Left (Unit {0}) arms x → n ≡ column (block_of x)
  left_over n from none c x low l = left-over-by (ltb x (length kind_table)) n from none c x refl low l

-- kinds in a row that are all known
pub known_in : (from count : ℕ) → T (every (λ k. known_kind (from + k)) count) → (x : ℕ) → from ≤ x → x < from + count → true ≡ known_kind x
known_in from count t x low high =
    let e : from + (x - from) ≡ x = omega arith in
    sym (is_true (known_kind x) (subst (λ y. T (known_kind y)) e (at (λ k. known_kind (from + k)) count t (x - from) (omega arith))))

-- The blocks of all kinds: what the table's pass, and that of no kind, passes every block.

every-block-by : (t : Bool) (f : Block → Bool) → T (f no_such_kind) → T (every (λ k. f (block_of k)) (length kind_table)) → (k : ℕ) → ltb k (length kind_table) ≡ t → T (f (block_of k))
every-block-by true f none c k i = at (λ k. f (block_of k)) (length kind_table) c k (ltb-true k (length kind_table) i)
every-block-by false f none c k i = subst (λ b. T (f b)) (past k (ltb-false k (length kind_table) i)) none

every-block : (f : Block → Bool) → T (f no_such_kind) → T (every (λ k. f (block_of k)) (length kind_table)) → (k : ℕ) → T (f (block_of k))
every-block f none c k = every-block-by (ltb k (length kind_table)) f none c k refl

-- a test that holds where another does
abbrev follows : Bool → Bool → Bool
follows true b = b
follows false b = true

followed : (a b : Bool) → T (follows a b) → a ≡ true → b ≡ true
followed true true t e = refl
followed true false t e = absurd t
followed false b t e = let z : ◌≡◌ {A = ℕ} 0 1 = cc in absurd (omega arith)

-- a kind that is written is known
pub written_known : (k : ℕ) → written_kind k ≡ true → known_kind k ≡ true
unfolding block_of
written_known k = followed (written_kind k) (known_kind k) (every-block (λ b. follows (ltb 0 b.bytes) (ltb 0 b.numbers)) tt tt k)

-- and its block divides 256
pub written-divides : (k : ℕ) → written_kind k ≡ true → eqb (256 % (block_of k).numbers) 0 ≡ true
unfolding block_of
written-divides k = followed (written_kind k) (eqb (256 % (block_of k).numbers) 0) (every-block (λ b. follows (ltb 0 b.bytes) (eqb (256 % b.numbers) 0)) tt tt k)

-- a kind in blocks of 32 is written
pub written-32 : (k : ℕ) → (block_of k).numbers ≡ 32 → written_kind k ≡ true
unfolding block_of
written-32 k e = followed (eqb (block_of k).numbers 32) (written_kind k) (every-block (λ b. follows (eqb b.numbers 32) (ltb 0 b.bytes)) tt tt k) (eq-eqb (block_of k).numbers 32 e)

-- a block that holds neither 32 numbers nor 256 holds one, or takes no bytes
abbrev pub long_blocks : List (List ℕ)
long_blocks = (32 ∷ []) ∷ (256 ∷ []) ∷ []

pub short-block : (k : ℕ) → Left (Unit {0}) long_blocks (block_of k).numbers → written_kind k ≡ true → (block_of k).numbers ≡ 1
unfolding block_of
short-block k l w =
    eqb-true (block_of k).numbers 1 (followed (written_kind k) (eqb (block_of k).numbers 1)
    (elim (or_yes (keyed long_blocks (block_of k).numbers) (follows (written_kind k) (eqb (block_of k).numbers 1))
    (every-block (λ b. keyed long_blocks b.numbers || follows (ltb 0 b.bytes) (eqb b.numbers 1)) tt tt k)) [
      | inl h ↦ absurd (not-keyed long_blocks (Unit {0}) (block_of k).numbers l h)
      | inr h ↦ h
    ]) w)

-- no block takes 512 bytes
pub small-block : (k : ℕ) → (block_of k).bytes < 512
unfolding block_of
small-block k = ltb→lt (block_of k).bytes 512 (every-block (λ b. ltb b.bytes 512) tt tt k)

-- the numbers of a block, as arms: any other block holds none
abbrev pub block_arms : List (List ℕ)
block_arms = (1 ∷ []) ∷ (32 ∷ []) ∷ (256 ∷ []) ∷ []

pub other_block : (k : ℕ) → Left (Unit {0}) block_arms (block_of k).numbers → 0 ≡ (block_of k).numbers
unfolding block_of
other_block k l = keyed_or_same block_arms (block_of k).numbers 0 (block_of k).numbers l (every-block (λ b. keyed block_arms b.numbers || eqb 0 b.numbers) tt tt k)
