-- Sizes and texts: where they end, what is looked at of them, and how a word is compared. Assumes
-- nothing.
use Rattle.std.specs.Prelude.{if◌then◌else◌}
use Rattle.values.specs.Contents.{inside_of}
use Prim.Native.Nat.{ℕ, zero, suc, ◌+◌, ◌^◌, ◌≤◌, ◌<◌, min}
use mathlib.Core.Path.{◌≡◌, refl, sym, ap, ◌∙◌}
use mathlib.Core.List.{List, [], ◌∷◌}
use mathlib.Core.Bool.{Bool, true, false}
use native.Mathlib.Omega.{arith}
use native.Mathlib.Numerals.{add-one}
use lib.ListN.{drop_of_length-le, length, take, drop, get_or, length-drop, length-take}
use lib.Seq.{drop-cons, length-take-le, take_all}
use lib.Dec.{eqb-suc-zero, leb, eqb}
use borrow.Author.Tests.{leb-true, leb-false, eq-eqb, ne_eqb, le-leb, tests}
use Rattle.reading.specs.Back.{same, Sure}
use Rattle.reading.specs.Reading.{Reading, done, field, Answer, accepted, refused, run, ◌>>=◌, ◌>>◌, here, check, and_then}
use Rattle.reading.proofs.RunLaws.{run_bind}
use Rattle.reading.proofs.SureLaws.{sure_then, sure_here, sure_check, sure_field, whatever}
use Rattle.fields.proofs.NumberFields.{number-within}
use Rattle.values.specs.Format.{size_width, size, text_looking, text, begins, is_word, alignment_key, tokenizer_key}
use Rattle.values.specs.declared.Dialect.{Dialect}
use Rattle.values.specs.declared.Span.{Span}

-- the place after a size is within the bytes
pub size-within : (k : Dialect) (s : List ℕ) (at : ℕ) {v q : ℕ} → accepted v q ≡ run (size k) s at → q ≤ length s
unfolding size
size-within k s at e = number-within (size_width k) k.big s at e

-- a text ends right after its bytes, which are there
pub record Inside (s : List ℕ) (a : Span) (q : ℕ) : Type 0 where
  pub ends : q ≡ a.place + a.len
  pub there : a.place + a.len ≤ length s

sure_text : (k : Dialect) (s : List ℕ) (p : ℕ) → Sure s (text k) p (Inside s)
unfolding text text_looking
sure_text k s p =
    sure_here _ (sure_then whatever (λ n q u. sure_check (leb n (2 ^ 30)) 7 p _ (λ short. sure_here _ (sure_field (λ there. record { ends = refl; there = there })))))

pub text-inside : (k : Dialect) (s : List ℕ) (at : ℕ) {a : Span} {q : ℕ} → accepted a q ≡ run (text k) s at → Inside s a q
text-inside k s at {a} {q} e = (sure_text k s at).holds a q e

-- what follows the size n of a text, which stood at p
abbrev after : {A : Type 0} → ℕ → (Span → List ℕ → A) → ℕ → ℕ → Reading A
after l f p n = do
  check (leb n (2 ^ 30)) 7 p
  q ← here
  field l n (λ bs. done (f (record { place = q; len = n }) bs))

-- the text that was looked at, from where it is
abbrev looked : {A : Type 0} → ℕ → (Span → List ℕ → A) → List ℕ → Span → ℕ → Answer A
looked l f s a q = accepted (f a (take l (take a.len (drop a.place s)))) q

after_cases : {A : Type 0} (l : ℕ) (f : Span → List ℕ → A) (s : List ℕ) (p n q : ℕ) (short there : Bool) → leb n (2 ^ 30) ≡ short → leb (q + n) (length s) ≡ there
    → run (after l f p n) s q ≡ and_then (run (after 0 (λ a bs. a) p n) s q) (looked l f s)
unfolding run here ◌>>=◌ and_then
after_cases l f s p n q true true e g = rw (e, g)
after_cases l f s p n q true false e g = rw (e, g)
after_cases l f s p n q false there e g = rw e

then-then : {A B C : Type 0} (r : Answer A) (f : A → ℕ → Answer C) (g : A → ℕ → Answer B) (h : B → ℕ → Answer C) → ((a : A) (p : ℕ) → f a p ≡ and_then (g a p) h) → and_then r f ≡ and_then (and_then r g) h
unfolding and_then
then-then (accepted a p) f g h e = e a p
then-then (refused n p) f g h e = refl

-- a text that is looked at is a text, and its first bytes
pub text-looked : {A : Type 0} (l : ℕ) (f : Span → List ℕ → A) (k : Dialect) (s : List ℕ) (at : ℕ) → run (text_looking l f k) s at ≡ and_then (run (text k) s at) (looked l f s)
unfolding text text_looking here run ◌>>=◌
text-looked l f k s at =
    run_bind (size k) (after l f at) s at ∙
    then-then (run (size k) s at) (λ n q. run (after l f at n) s q) (λ n q. run (after 0 (λ a bs. a) at n) s q) (looked l f s)
    (λ n q. after_cases l f s at n q (leb n (2 ^ 30)) (leb (q + n) (length s)) refl refl) ∙
    ap (λ r. and_then r (looked l f s)) (sym (run_bind (size k) (after 0 (λ a bs. a) at) s at))

-- enough bytes tell whether a text starts with a word
pub begins-take : (w text : List ℕ) (n : ℕ) → length w ≤ n → begins w (take n text) ≡ begins w text
begins-take [] text n h = refl
begins-take (x ∷ w) text zero h = absurd (omega arith)
begins-take (x ∷ w) [] (suc n) h = refl
begins-take (x ∷ w) (y ∷ text) (suc n) h = ap (λ b. if eqb x y then b else false) (begins-take w text n (omega arith))

-- the first n bytes tell whether a text is a word of fewer bytes
word_cases : (sought text : List ℕ) (n : ℕ) → length sought < n → (b : Bool) → leb (length text) n ≡ b → is_word sought (take n text) ≡ is_word sought text
word_cases sought text n h true e = rw (take_all n text (leb-true _ _ e))
word_cases sought text n h false e =
    let i : n < length text = leb-false _ _ e in
    rw (length-take-le n text (omega arith), ne_eqb n (length sought) (λ x. omega arith), ne_eqb (length text) (length sought) (λ x. omega arith))

pub word-told : (sought text : List ℕ) (n : ℕ) → length sought < n → is_word sought (take n text) ≡ is_word sought text
word-told sought text n h = word_cases sought text n h (leb (length text) n) refl

begins_cases : (b c : Bool) → c ≡ false → (if b then c else false) ≡ false
begins_cases true c e = e
begins_cases false c e = refl

-- every text starts with the word of no bytes
pub begins-none : (w text : List ℕ) → length w ≡ 0 → begins w text ≡ true
begins-none [] text e = refl
begins-none (x ∷ w) text e = absurd (omega arith)

-- a shorter text does not start with a word
pub begins-short : (w text : List ℕ) → length text < length w → begins w text ≡ false
begins-short [] text h = absurd (omega arith)
begins-short (x ∷ w) [] h = refl
begins-short (x ∷ w) (y ∷ text) h = begins_cases (eqb x y) (begins w text) (begins-short w text (omega arith))

-- of too few bytes none begin with a word, unless it has none
pub begins-few : (w text : List ℕ) → (0 < length w → length text < length w) → eqb (length w) 0 ≡ begins w text
begins-few [] text h = refl
begins-few (x ∷ w) text h = rw (eqb-suc-zero (length w)) (sym (begins-short (x ∷ w) text (h (omega arith))))

-- a turn of the comparison, as a loop has it: from the byte i on
abbrev pub begins_from : List ℕ → ℕ → List ℕ → ℕ → Bool
begins_from s p w i = begins (drop i w) (drop (p + i) s)

module _ (s : List ℕ) (p : ℕ) (w : List ℕ) (i : ℕ) where
  pub begins-ends : length w ≤ i → begins_from s p w i ≡ true
  begins-ends h = rw (drop_of_length-le w {i = i} h)

  pub begins-turn : p + length w ≤ length s → i < length w → begins_from s p w i ≡ (if eqb (get_or w i 0) (get_or s (p + i) 0) then begins_from s p w (i + 1) else false)
  begins-turn fits h =
      let j : suc (p + i) ≡ p + (i + 1) = omega arith in
      rw (drop-cons w i 0 h, drop-cons s (p + i) 0 (omega arith), j, add-one i)

-- a text that is inside has as many bytes as its span says
pub bytes-length : (s : List ℕ) (a : Span) → a.place + a.len ≤ length s → length (take a.len (drop a.place s)) ≡ a.len
bytes-length s a there = length-take-le a.len (drop a.place s) (rw length-drop (omega arith))

-- a text's first bytes, as a key has them, against a word of fewer bytes
module _ (w : List ℕ) (n : ℕ) (s : List ℕ) (a : Span) where
  first-length : a.place + a.len ≤ length s → length (take n (take a.len (drop a.place s))) ≡ min n a.len
  first-length there = length-take n (take a.len (drop a.place s)) ∙ ap (min n) (bytes-length s a there)

  pub too_short : a.place + a.len ≤ length s → a.len < length w → begins w (take n (take a.len (drop a.place s))) ≡ false
  too_short there short = begins-short w (take n (take a.len (drop a.place s))) (rw (first-length there) (omega arith))

  pub long-enough : length w ≤ n → length w ≤ a.len → begins w (take n (take a.len (drop a.place s))) ≡ begins w (drop a.place s)
  long-enough few long = begins-take w (take a.len (drop a.place s)) n few ∙ begins-take w (drop a.place s) a.len long

  pub other_length : length w < n → a.place + a.len ≤ length s → (a.len ≡ length w → ⊥) → is_word w (take n (take a.len (drop a.place s))) ≡ false
  other_length few there other = rw (first-length there, ne_eqb (min n a.len) (length w) (λ e. other (omega arith)))

  pub same_length : length w < n → a.place + a.len ≤ length s → a.len ≡ length w → is_word w (take n (take a.len (drop a.place s))) ≡ begins w (drop a.place s)
  same_length few there same = rw (first-length there, eq-eqb (min n a.len) (length w) (omega arith)) (long-enough (omega arith) (omega arith))

-- of a key that is inside, the first 18 bytes tell whether it is the alignment's
pub alignment-looked : (s : List ℕ) (a : Span) → a.place + a.len ≤ length s → is_word alignment_key (inside_of s a) ≡ is_word alignment_key (take 18 (take a.len (drop a.place s)))
alignment-looked s a there = rw (le-leb _ _ there, word-told alignment_key (take a.len (drop a.place s)) 18 (omega arith))

-- and whether it starts with the tokenizer's
pub tokenizer-looked : (s : List ℕ) (a : Span) → a.place + a.len ≤ length s → begins tokenizer_key (inside_of s a) ≡ begins tokenizer_key (take 18 (take a.len (drop a.place s)))
tokenizer-looked s a there = rw (le-leb _ _ there) (sym (begins-take tokenizer_key (take a.len (drop a.place s)) 18 (omega arith)))

-- the steps of a text, and those of a key
pub ruleset text_steps = (run_bind, size-within, tests)

pub ruleset key_steps = (text-looked, text-inside, alignment-looked)
