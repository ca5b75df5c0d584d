-- Turns of the digits of a number, the last one first. Assumes nothing.
use Rattle.std.specs.Prelude.{if◌then◌else◌}
use Prim.Native.Nat.{ℕ, zero, suc, ◌+◌, ◌-◌, ◌*◌, ◌/◌, ◌%◌, ◌^◌, ◌≤◌, ◌<◌}
use mathlib.Core.Path.{◌≡◌, refl, ◌∙◌}
use mathlib.Core.Bool.{Bool, true, false}
use mathlib.Core.List.{List, [], ◌∷◌, ◌++◌, append_assoc}
use native.Mathlib.Omega.{arith}
use native.Mathlib.Numerals.{sub-one}
use native.Mathlib.Nat.{pow-suc}
use lib.Dec.{ltb}
use lib.ListN.{length, drop, set}
use borrow.Author.Tests.{lt-ltb, le-ltb, ltb-true}
use Rattle.fields.proofs.Bytes.{drop-set}
use Rattle.text_out.specs.Words.{digits, decimal}

-- a digit more is stored, and those before it are left
pub digits-turn : (at rest : ℕ) (places : List ℕ) → 0 < at → 9 < rest → at < length places
    → digits (suc at) rest ++ drop (suc at) places ≡ digits (suc (at - 1)) (rest / 10) ++ drop (suc (at - 1)) (set places at (48 + rest % 10))
unfolding digits
digits-turn zero rest places h more long = absurd (omega arith)
digits-turn (suc a) rest places h more long =
    rw (le-ltb rest 10 (omega arith), sub-one (suc a), drop-set places (suc a) (48 + rest % 10) long) (append_assoc (digits (suc a) (rest / 10)) _ _)

-- a digit is stored, and the number has more
pub digits_more : (at rest : ℕ) (places : List ℕ) → 9 < rest → at < length places
    → digits (suc at) rest ++ drop (suc at) places ≡ digits at (rest / 10) ++ drop at (set places at (48 + rest % 10))
unfolding digits
digits_more at rest places more long =
    rw (le-ltb rest 10 (omega arith), drop-set places at (48 + rest % 10) long) (append_assoc (digits at (rest / 10)) _ _)

-- no digits fit into no places
pub no_digits : (n rest : ℕ) (places : List ℕ) → n ≡ 0 → digits n rest ++ drop n places ≡ places
unfolding digits
no_digits n rest places e = rw e refl

-- a number below 10 is one digit, and so is what one place holds
pub one_digit : (at rest : ℕ) → rest ≤ 9 → digits (suc at) rest ≡ (48 + rest % 10) ∷ []
unfolding digits
one_digit at rest few = rw (lt-ltb rest 10 (omega arith)) refl

pub one_place : (at rest : ℕ) → at ≡ 0 → digits (suc at) rest ≡ (48 + rest % 10) ∷ []
unfolding digits
one_place at rest none = rw none (either (ltb rest 10))
  where
    either : (b : Bool) → (if b then [] else []) ++ ((48 + rest % 10) ∷ []) ≡ (48 + rest % 10) ∷ []
    either true = refl
    either false = refl

-- the first digit is stored last
pub digits-end : (at rest : ℕ) (places : List ℕ) → at < length places → digits (suc at) rest ≡ (48 + rest % 10) ∷ []
    → drop at (set places at (48 + rest % 10)) ≡ digits (suc at) rest ++ drop (suc at) places
digits-end at rest places long one = rw one (drop-set places at (48 + rest % 10) long)

-- the number that digits say, after those that said n
abbrev pub said : ℕ → List ℕ → ℕ
said n [] = n
said n (c ∷ more) = said (n * 10 + (c - 48)) more

said_more : (n c : ℕ) (l : List ℕ) → said n (l ++ (c ∷ [])) ≡ said n l * 10 + (c - 48)
said_more n c [] = refl
said_more n c (d ∷ l) = said_more (n * 10 + (d - 48)) c l

said-digits : (most n : ℕ) → n < 10 ^ most → said 0 (digits most n) ≡ n
unfolding digits
said-digits zero n h = omega arith
said-digits (suc most) n h = by (ltb n 10) refl (said-digits most (n / 10))
  where
    by : (b : Bool) → ltb n 10 ≡ b → (n / 10 < 10 ^ most → said 0 (digits most (n / 10)) ≡ n / 10)
        → said 0 ((if b then [] else digits most (n / 10)) ++ ((48 + n % 10) ∷ [])) ≡ n
    by true e rest = let few = ltb-true n 10 e in omega arith
    by false e rest =
        let f : n / 10 < 10 ^ most = omega (arith, pow-suc 10 most) in
        let r : said 0 (digits most (n / 10)) ≡ n / 10 = rest f in
        said_more 0 (48 + n % 10) (digits most (n / 10)) ∙ rw r (omega arith)

-- a number of 64 bits is the one that its decimal digits say
pub decimal-said : (n : ℕ) → n < 2 ^ 64 → said 0 (decimal n) ≡ n
unfolding decimal
decimal-said n h = said-digits 20 n (omega arith)
