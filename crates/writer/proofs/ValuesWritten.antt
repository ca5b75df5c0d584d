-- What is written of an item or a value that is there and no array: a scalar or a text. Assumes
-- nothing.
use Rattle.std.specs.Prelude.{Some, None}
use Prim.Native.Nat.{ℕ, suc, ◌+◌, ◌-◌, ◌≤◌}
use mathlib.Core.Path.{◌≡◌, refl, sym, ap, ◌∙◌}
use mathlib.Core.Bool.{Bool, true, false}
use mathlib.Core.List.{List}
use native.Mathlib.Omega.{arith}
use lib.Dec.{eqb}
use lib.ListN.{length, take, drop}
use borrow.Author.Tests.{le-leb, eqb-true, eqb-false}
use Rattle.fields.specs.Bytes.{bytes_of}
use Rattle.reading.specs.Reading.{Answer, accepted, refused, run, and_then, is_accepted}
use Rattle.fields.proofs.Bytes.{length_bytes_of}
use Rattle.reading.proofs.RunLaws.{not_there}
use Rattle.values.specs.Contents.{Content, a_scalar, a_text, text_bytes, value_bytes, inside_of}
use Rattle.values.specs.Format.{size_width, depth}
use Rattle.scalars.specs.Scalars.{scalar_width}
use Rattle.values.specs.declared.Dialect.{Dialect}
use Rattle.values.specs.declared.Span.{Span}
use Rattle.plan.proofs.PartLengths.{text-length}
use Rattle.sheet.specs.Format.{Text, text_of, text, scalar, item, value}
use Rattle.sheet.specs.Sheet.{span_of}
use Rattle.sheet.proofs.SheetItems.{has-none, item-text, item-none, value-text, value_none}
use Rattle.sheet.proofs.PartsFound.{TextTold, scalar-told, sure_text_of, sure_text}
use Rattle.sheet.proofs.BackFromAnswers.{span_no, span_yes, step_there}
use Rattle.plan.specs.Steps.{content_read}
use Rattle.sheet.specs.Steps.{step_of}
use Rattle.writer.specs.Steps.{number_in}

-- Scalars.

-- a scalar of the type t at the place p, which r tells
pub record ScalarSaid (d : ℕ) (k : Dialect) (t : ℕ) (s : List ℕ) (p : ℕ) (r : Answer (Content (suc d))) : Type 0 where
  pub there : is_accepted (run (scalar t) s p) ≡ true
  pub bytes : bytes_of k.big (scalar_width t) (number_in (run (scalar t) s p)) ≡ value_bytes (suc d) k (content_read r)
  pub size : length (value_bytes (suc d) k (content_read r)) ≡ scalar_width t
  pub ends : Some (p + scalar_width t) ≡ step_of r
  pub inside : p + scalar_width t ≤ length s

module _ (d : ℕ) (k : Dialect) (t : ℕ) (s : List ℕ) (p : ℕ) (r : Answer (Content (suc d))) where
  scalar-bytes : {v q : ℕ} → accepted v q ≡ run (scalar t) s p → r ≡ accepted (a_scalar t v) q → bytes_of k.big (scalar_width t) (number_in (run (scalar t) s p)) ≡ value_bytes (suc d) k (content_read r)
  unfolding value_bytes
  scalar-bytes e i = ap (λ x. bytes_of k.big (scalar_width t) (number_in x)) (sym e) ∙ ap (λ x. value_bytes (suc d) k (content_read x)) (sym i)

  scalar_by : (x : Answer ℕ) → x ≡ run (scalar t) s p → r ≡ and_then x (λ v q. accepted (a_scalar t v) q) → is_accepted r ≡ true → ScalarSaid d k t s p r
  unfolding and_then
  scalar_by (accepted v q) e i h =
      let g = (scalar-told s t p).holds v q e in
      let b = scalar-bytes e i in
      record {
        there = ap is_accepted (sym e);
        bytes = b;
        size = ap length (sym b) ∙ length_bytes_of k.big (scalar_width t) (number_in (run (scalar t) s p));
        ends = ap Some (sym g.0) ∙ ap step_of (sym i);
        inside = omega (arith, g.0, g.1);
      }
  scalar_by (refused n o) e i h = absurd (not_there i h)

  pub scalar-said : r ≡ and_then (run (scalar t) s p) (λ v q. accepted (a_scalar t v) q) → is_accepted r ≡ true → ScalarSaid d k t s p r
  scalar-said i h = scalar_by (run (scalar t) s p) refl i h

-- Texts.

-- a text that is there is what stands at its span
text-inside : {s : List ℕ} {p : ℕ} {a : Text} {q : ℕ} → TextTold s p a q → inside_of s a.span ≡ a.bytes
text-inside {s} {p} {a} h = rw (le-leb (a.span.place + a.span.len) (length s) (omega (arith, h.starts, h.ends, h.there))) h.bytes

word_bytes : (d : ℕ) (k : Dialect) (r : Answer (Content (suc d))) (b : List ℕ) (q : ℕ) → r ≡ accepted (a_text b) q → text_bytes k b ≡ value_bytes (suc d) k (content_read r)
unfolding value_bytes
word_bytes d k r b q i = ap (λ x. value_bytes (suc d) k (content_read x)) (sym i)

-- an item that is a text, at the span a
pub record ItemText (k : Dialect) (t : ℕ) (s : List ℕ) (p : ℕ) (a : Span) (q : ℕ) : Type 0 where
  pub bytes : text_bytes k (inside_of s a) ≡ value_bytes 1 k (content_read (run (item 1 t) s p))
  pub size : length (value_bytes 1 k (content_read (run (item 1 t) s p))) ≡ size_width k + length (inside_of s a)
  pub ends : Some q ≡ step_of (run (item 1 t) s p)

module _ (k : Dialect) (t : ℕ) (s : List ℕ) (p : ℕ) (none : 0 ≡ scalar_width t) (there : is_accepted (run (item 1 t) s p) ≡ true) where
  -- no other than a text is an item here
  item-typed : t ≡ 8
  item-typed = by (eqb t 8) refl
    where
      by : (b : Bool) → eqb t 8 ≡ b → t ≡ 8
      by true e = eqb-true t 8 e
      by false e = absurd (not_there (item-none s p t (has-none t none) (eqb-false t 8 e)) there)

  item-run : run (item 1 t) s p ≡ and_then (run text s p) (λ a q. accepted (a_text a.bytes) q)
  item-run = rw item-typed (item-text s p 0)

  pub item_no : None ≡ span_of (run text s p) → ⊥
  unfolding and_then
  item_no e =
      let r = span_no (run text s p) e in
      not_there (item-run ∙ ap (λ x. and_then x (λ a q. accepted (a_text a.bytes) q)) (sym r.is)) there

  text-there : (x : Text) (q : ℕ) → accepted x q ≡ run text s p → ItemText k t s p x.span q
  unfolding and_then
  text-there x q e =
      let i : run (item 1 t) s p ≡ accepted (a_text x.bytes) q = item-run ∙ ap (λ y. and_then y (λ a q. accepted (a_text a.bytes) q)) (sym e) in
      let b = ap (text_bytes k) (text-inside ((sure_text s p).holds x q e)) ∙ word_bytes 0 k (run (item 1 t) s p) x.bytes q i in
      record { bytes = b; size = ap length (sym b) ∙ text-length k (inside_of s x.span); ends = ap step_of (sym i) }

  pub item_yes : {a : Span} {q : ℕ} → Some (a, q) ≡ span_of (run text s p) → ItemText k t s p a q
  item_yes {a} {q} e = let r = span_yes (run text s p) e in rw r.told (text-there r.what q r.is)

-- a value that is a text: all that stands from p up to the entry's end e
pub record ValueText (k : Dialect) (e t : ℕ) (s : List ℕ) (p : ℕ) : Type 0 where
  pub low : p ≤ e
  pub high : e ≤ length s
  pub bytes : text_bytes k (take (e - p) (drop p s)) ≡ value_bytes (suc depth) k (content_read (run (value e t) s p))
  pub size : length (value_bytes (suc depth) k (content_read (run (value e t) s p))) ≡ size_width k + length (take (e - p) (drop p s))

module _ (k : Dialect) (e t : ℕ) (s : List ℕ) (p : ℕ) (none : 0 ≡ scalar_width t) (other : t ≡ 9 → ⊥) (there : Some e ≡ step_of (run (value e t) s p)) where
  value-typed : t ≡ 8
  value-typed = by (eqb t 8) refl
    where
      by : (b : Bool) → eqb t 8 ≡ b → t ≡ 8
      by true i = eqb-true t 8 i
      by false i = absurd (not_there (value_none s p e t (has-none t none) (eqb-false t 8 i) other) (step_there (run (value e t) s p) there))

  value-run : run (value e t) s p ≡ and_then (run (text_of (e - p)) s p) (λ a q. accepted (a_text a.bytes) q)
  value-run = rw value-typed (value-text s p e)

  value_made : (x : Text) → accepted x e ≡ run (text_of (e - p)) s p → run (value e t) s p ≡ accepted (a_text x.bytes) e → ValueText k e t s p
  value_made x i j =
      let h = (sure_text_of s (e - p) p).holds x e i in
      let n : x.span.len ≡ e - p = omega (arith, h.ends) in
      let b = ap (text_bytes k) (rw (n, h.starts) at h.bytes) ∙ word_bytes depth k (run (value e t) s p) x.bytes e j in
      record { low = omega (arith, h.ends); high = h.there; bytes = b; size = ap length (sym b) ∙ text-length k (take (e - p) (drop p s)) }

  value-by : (x : Answer Text) → x ≡ run (text_of (e - p)) s p → run (value e t) s p ≡ and_then x (λ a q. accepted (a_text a.bytes) q) → ValueText k e t s p
  unfolding and_then
  value-by (accepted x q) i j =
      let m : Some e ≡ Some q = there ∙ ap step_of j in
      let o : q ≡ e = cc in
      value_made x (rw o at i) (rw o at j)
  value-by (refused n o) i j = absurd (not_there j (step_there (run (value e t) s p) there))

  pub value-said : ValueText k e t s p
  value-said = value-by (run (text_of (e - p)) s p) refl value-run
