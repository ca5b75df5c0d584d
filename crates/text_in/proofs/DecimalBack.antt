-- A number of 64 bits in decimal reads back as that number. Assumes nothing.
use Rattle.std.specs.Prelude.{if◌then◌else◌}
use Prim.Native.Nat.{ℕ, zero, suc, ◌+◌, ◌*◌, ◌/◌, ◌%◌, ◌^◌, ◌<◌}
use mathlib.Core.Path.{◌≡◌, refl, ap, ◌∙◌}
use mathlib.Core.Bool.{Bool, true, false}
use mathlib.Core.List.{List, [], ◌∷◌, ◌++◌}
use native.Mathlib.Omega.{arith}
use native.Mathlib.Nat.{pow-suc}
use lib.Dec.{ltb}
use lib.ListN.{length, length-append}
use borrow.Author.Tests.{ltb-true, le-leb, lt-ltb}
use Rattle.text_out.specs.Words.{digits, decimal}
use Rattle.text_in.specs.Decimal.{is_digit, with_digit, number_from, number_of}
use Rattle.std.specs.Prelude.{Option, Some, None}
use Rattle.text_in.proofs.Digits.{some-text}

-- what a byte more makes of a number
abbrev more : ℕ → Option ℕ → Option ℕ
more b (Some n) = number_from n (b ∷ [])
more b None = None

-- the digits before the last, and the last
last_digit : (n b : ℕ) (l : List ℕ) → number_from n (l ++ (b ∷ [])) ≡ more b (number_from n l)
unfolding number_from
last_digit n b [] = refl
last_digit n b (a ∷ l) = by (is_digit a) (ltb (with_digit n a) (2 ^ 64)) (last_digit (with_digit n a) b l)
  where
    by : (d f : Bool) → number_from (with_digit n a) (l ++ (b ∷ [])) ≡ more b (number_from (with_digit n a) l)
        → (if d then (if f then number_from (with_digit n a) (l ++ (b ∷ [])) else None) else None) ≡ more b (if d then (if f then number_from (with_digit n a) l else None) else None)
    by true true rest = rest
    by true false rest = refl
    by false f rest = refl

-- a digit that is read after a number
one_more : (m d : ℕ) → d < 10 → 10 * m + d < 2 ^ 64 → number_from m ((48 + d) ∷ []) ≡ Some (10 * m + d)
unfolding number_from
one_more m d small fits =
    let e : with_digit m (48 + d) ≡ 10 * m + d = omega arith in
    rw (le-leb 48 (48 + d) (omega arith), le-leb (48 + d) 57 (omega arith), e, lt-ltb (10 * m + d) (2 ^ 64) fits)

read-digits : (most n : ℕ) → n < 10 ^ most → n < 2 ^ 64 → number_from 0 (digits most n) ≡ Some n
unfolding digits number_from
read-digits zero n h f = ap Some (omega arith)
read-digits (suc most) n h f = by (ltb n 10) refl (read-digits most (n / 10))
  where
    by : (b : Bool) → ltb n 10 ≡ b → (n / 10 < 10 ^ most → n / 10 < 2 ^ 64 → number_from 0 (digits most (n / 10)) ≡ Some (n / 10))
        → number_from 0 ((if b then [] else digits most (n / 10)) ++ ((48 + n % 10) ∷ [])) ≡ Some n
    by true e rest = let few = ltb-true n 10 e in one_more 0 (n % 10) (omega arith) (omega arith) ∙ ap Some (omega arith)
    by false e rest =
        let g : n / 10 < 10 ^ most = omega (arith, pow-suc 10 most) in
        last_digit 0 (48 + n % 10) (digits most (n / 10)) ∙ ap (more (48 + n % 10)) (rest g (omega arith)) ∙
        one_more (n / 10) (n % 10) (omega arith) (omega arith) ∙ ap Some (omega arith)

some-digits : (most n : ℕ) → 0 < length (digits (suc most) n)
unfolding digits
some-digits most n = rw (length-append (if ltb n 10 then [] else digits most (n / 10)) ((48 + n % 10) ∷ [])) (omega arith)

-- what `put_decimal` puts is the text of its number
pub decimal-back : (n : ℕ) → n < 2 ^ 64 → number_of (decimal n) ≡ Some n
unfolding decimal
decimal-back n h = some-text (digits 20 n) (some-digits 19 n) ∙ read-digits 20 n (omega arith) h
