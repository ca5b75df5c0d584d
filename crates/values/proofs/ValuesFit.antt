-- What is accepted fits: whatever entry a reader accepts can be written. Assumes nothing.
use Rattle.std.specs.Prelude.{if◌then◌else◌}
use Prim.Native.Nat.{ℕ, zero, suc, ◌^◌, ◌≤◌, ◌<◌}
use mathlib.Core.Path.{◌≡◌, sym, ap, subst}
use mathlib.Core.List.{List, map}
use mathlib.Core.Bool.{Bool, true, false}
use native.Mathlib.Omega.{arith}
use lib.ListN.{length, take, drop, length-take, length-map}
use lib.Dec.{leb, eqb, ltb}
use borrow.Author.Tests.{leb-true, ltb-true, eqb-true}
use Rattle.reading.specs.Back.{All, Sure}
use Rattle.fields.specs.Bytes.{Byte, Within}
use Rattle.reading.specs.Each.{each, times}
use Rattle.reading.specs.Reading.{Reading, done, refuse, accepted, run, ◌>>=◌}
use Rattle.values.specs.Format.{value, size_width, size, text_looking, text, is_word, alignment_key, tokenizer_key, key_of, key, value_of, array, depth, entry}
use Rattle.scalars.specs.Scalars.{scalar_width, scalar_of, scalar_bits, FitsScalar, scalar_type}
use Rattle.reading.proofs.SureLaws.{sure_then, sure_done, sure_refuse, sure_here, sure_check, sure_if, sure_each, sure_field, sure_run, items-again, all_map, sure_so, map-through}
use Rattle.fields.proofs.NumberFields.{sure_number}
use Rattle.values.specs.Contents.{FlaggedKey, flagged_key, flagged_entry, type_of, bytes_at, value_content, entry_content, flagged_key_of, flagged_entry_of, Short, FitsValue, FitsEntry}
use Rattle.values.proofs.ValuesBack.{kept-said}
use Rattle.scalars.proofs.Bits.{scalar-kept}
use Rattle.values.proofs.Texts.{begins-take, word-told}
use Rattle.values.proofs.ValueForms.{sure_type}
use Rattle.scalars.proofs.Types.{scalar-typed, array_typed}
use Rattle.values.specs.declared.Dialect.{Dialect}
use Rattle.values.specs.declared.Span.{Span}
use Rattle.values.specs.declared.ArraySpan.{ArraySpan}
use Rattle.values.specs.declared.Value.{Value}
use Rattle.values.specs.declared.Value.TheVariants.{Array}

-- a refusal, so many times: its place matters only where something is refused
none-refused : {A : Type 0} (n m o o' : ℕ) (s : List ℕ) (p : ℕ) (g : ArraySpan → A) {l : List A} {q : ℕ} → accepted l q ≡ run (times n (refuse m o >>= (λ a. done (g a)))) s p
    → accepted l q ≡ run (times n (refuse m o' >>= (λ a. done (g a)))) s p
unfolding each run ◌>>=◌
none-refused zero m o o' s p g e = e
none-refused (suc n) m o o' s p g e = let z : ◌≡◌ {A = ℕ} 0 1 = cc in absurd (omega arith)

-- values where no deeper array is allowed
shallow_again : (k : Dialect) (o n : ℕ) (s : List ℕ) (p : ℕ) (a b : Bool) (x y : Reading Value) {l : List Value} {q : ℕ}
    → accepted l q ≡ run (times n (if a then x else if b then y else (array zero k o >>= (λ c. done (Array c))))) s p
    → accepted l q ≡ run (times n (if a then x else if b then y else (array zero k 0 >>= (λ c. done (Array c))))) s p
unfolding array
shallow_again k o n s p true b x y e = e
shallow_again k o n s p false true x y e = e
shallow_again k o n s p false false x y e = none-refused n 9 o 0 s p Array e

-- the place of the item type matters only where nothing is accepted
pub items_anywhere : (d : ℕ) (k : Dialect) (o t n : ℕ) (s : List ℕ) (p : ℕ) {l : List Value} {q : ℕ} → accepted l q ≡ run (times n (value_of (array d k) k o t)) s p
    → accepted l q ≡ run (times n (value_of (array d k) k 0 t)) s p
unfolding value_of array
items_anywhere zero k o t n s p e = shallow_again k o n s p (ltb 0 (scalar_width t)) (eqb t 8) _ _ e
items_anywhere (suc d) k o t n s p e = e

-- what a value of the type t is sure to be
record Typed (d : ℕ) (k : Dialect) (s : List ℕ) (t : ℕ) (v : Value) : Type 0 where
  typed : type_of (value_content (suc d) k s v) ≡ t
  fits : FitsValue (suc d) k (value_content (suc d) k s v)

module _ (k : Dialect) (s : List ℕ) (bytes : All Byte s) where
  pub sure_size : (p : ℕ) → Sure s (size k) p (λ n q. Within (size_width k) n)
  unfolding size
  sure_size p = sure_number s bytes _ _ p

  -- a text of which the first l bytes are looked at
  sure_looking : {A : Type 0} {P : A → Type 0} (l : ℕ) (f : Span → List ℕ → A) → ((a : Span) → Short (bytes_at s a) → P (f a (take l (bytes_at s a))))
      → (p : ℕ) → Sure s (text_looking l f k) p (λ a q. P a)
  unfolding text_looking
  sure_looking l f made p =
      sure_here _ (sure_then (sure_size p) (λ n q h. sure_check (leb n (2 ^ 30)) 7 p _ (λ e.
      let i : n ≤ 2 ^ 30 = leb-true _ _ e in
      let short : length (take n (drop q s)) ≤ 2 ^ 30 = rw length-take (omega arith) in
      sure_here _ (sure_field (λ there. made (record { place = q; len = n }) short)))))

  pub sure_text : (p : ℕ) → Sure s (text k) p (λ a q. Short (bytes_at s a))
  unfolding text
  sure_text p = sure_looking 0 (λ a bs. a) (λ a h. h) p

  pub sure_key : (p : ℕ) → Sure s (key k) p (λ x q. Short (bytes_at s x.span) × (flagged_key_of s x ≡ flagged_key (bytes_at s x.span)))
  unfolding key
  sure_key p =
      sure_looking 18 key_of (λ a h. (h, rw (word-told alignment_key (bytes_at s a) 18 (omega arith), begins-take tokenizer_key (bytes_at s a) 18 (omega arith)))) p

  -- a value, where the arrays in it are sure to fit
  said_sure : (d : ℕ) → ((o p : ℕ) → Sure s (array d k o) p (λ a q. FitsValue (suc d) k (value_content (suc d) k s (Array a)))) → (o t p : ℕ) → t ≤ 12
      → Sure s (value_of (array d k) k o t) p (λ v q. Typed d k s t v)
  unfolding value_of value_content
  said_sure d arrays o t p i =
      sure_if (ltb 0 (scalar_width t)) _ _
      (λ e. sure_then (sure_number s bytes (scalar_width t) k.big p) (λ n q h.
      let w : 0 < scalar_width t = ltb-true _ _ e in
      let j : scalar_type (scalar_of t n) ≡ t = scalar-typed t n i w in
      sure_done (record { typed = j; fits = subst (λ u. FitsScalar u (scalar_bits (scalar_of t n))) (sym j) (scalar-kept t n i w h) })))
      (λ e. sure_if (eqb t 8) _ _
      (λ g. sure_then (sure_text p) (λ a q h. sure_done (record { typed = sym (eqb-true t 8 g); fits = h })))
      (λ g. sure_then (arrays o p) (λ a q h. sure_done (record { typed = sym (array_typed t i e g); fits = h }))))

  -- arrays, by the depth: what the view finds again is what was read
  array_sure : (d o p : ℕ) → Sure s (array d k o) p (λ a q. FitsValue (suc d) k (value_content (suc d) k s (Array a)))
  unfolding array value_content
  array_sure zero o p = sure_refuse
  array_sure (suc d) o p =
      sure_here _ (sure_then (sure_type k s p) (λ t q i. sure_then (sure_size q) (λ n r h. sure_here _
      (sure_then (sure_run (sure_each _ _ (λ z u. said_sure d (array_sure d) p t u i) n tt r)) (λ l u g. sure_done
      (rw (items-again (value_content (suc d) k s) (value_of (array d k) k 0 t) n s r (items_anywhere d k p t n s r g.1), length-map l (value_content (suc d) k s), g.0.0)
      (omega arith, i, h, all_map (λ c. (type_of c ≡ t) × FitsValue (suc d) k c) (value_content (suc d) k s) (λ v f. (f.typed, f.fits)) l g.0.1)))))))

  pub sure_value : (p : ℕ) → Sure s (value k) p (λ v q. FitsValue (suc depth) k (value_content (suc depth) k s v))
  unfolding value
  sure_value p = sure_here _ (sure_then (sure_type k s p) (λ t q i. sure_so (said_sure depth (array_sure depth) p t q i) (λ v r h. h.fits)))

  -- an entry, and that its key decided what it says
  pub sure_noted : (cap p : ℕ) → Sure s (entry k cap) p (λ e q. FitsEntry k (entry_content k s e) × (flagged_entry_of k s e ≡ flagged_entry (entry_content k s e)))
  unfolding entry
  sure_noted cap p =
      sure_then (sure_key p) (λ x q h. sure_then (sure_value q) (λ v r g.
      let e : x.is_alignment ≡ is_word alignment_key (bytes_at s x.span) = ap (λ (n : FlaggedKey). n.is_alignment) h.1 in
      sure_done (record { key = h.0; value = rw (kept-said (suc depth) k s x.is_tokenizer cap v) g }, rw e)))

  pub sure_entry : (cap p : ℕ) → Sure s (entry k cap) p (λ e q. FitsEntry k (entry_content k s e))
  sure_entry cap p = sure_so (sure_noted cap p) (λ e q h. h.0)

  -- the lists of the two
  pub sure_entries : (cap n p : ℕ) → Sure s (times n (entry k cap)) p (λ l q. (length l ≡ n) × All (FitsEntry k) (map (entry_content k s) l) × (map (flagged_entry_of k s) l ≡ map flagged_entry (map (entry_content k s) l)))
  sure_entries cap n p =
      sure_so (sure_each _ _ (λ z. sure_noted cap) n tt p) (λ l q h.
      (h.0, all_map (FitsEntry k) (entry_content k s) (λ e g. g.0) l h.1, map-through (flagged_entry_of k s) flagged_entry (entry_content k s) (λ e g. g.1) l h.1))
