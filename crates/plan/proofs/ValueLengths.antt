-- How long values of a sheet are as values of a header, from the places between which they stand:
-- their items are not looked at. Assumes nothing.
use Rattle.std.specs.Prelude.{if◌then◌else◌, Some}
use Prim.Native.Nat.{ℕ, zero, suc, ◌+◌, ◌-◌, ◌*◌, ◌≤◌}
use mathlib.Core.Path.{◌≡◌, refl, sym, ap, ◌∙◌}
use mathlib.Core.Bool.{true, false}
use mathlib.Core.List.{List}
use native.Mathlib.Omega.{arith}
use native.Mathlib.Nat.{suc-mul}
use lib.Dec.{leb, ltb, eqb}
use lib.ListN.{length}
use borrow.Author.Tests.{eqb-true, eq-eqb, ne_eqb}
use Rattle.reading.specs.Back.{Sure, got, bytes_of_all}
use Rattle.reading.specs.Each.{each, times}
use Rattle.reading.specs.Reading.{Answer, accepted, refused, run, is_accepted}
use Rattle.fields.specs.Value.{width_of, number}
use Rattle.fields.specs.declared.Width.{Width}
use Rattle.fields.proofs.Before.{clash}
use Rattle.reading.proofs.SureLaws.{sure_then, sure_done, sure_refuse, sure_here, sure_check, sure_if, sure_run, whatever}
use Rattle.values.specs.declared.Dialect.{Dialect}
use Rattle.values.specs.Format.{size_width, depth}
use Rattle.scalars.specs.Scalars.{scalar_width}
use Rattle.values.specs.Contents.{ValueContent, a_scalar, a_text, value_bytes}
use Rattle.values.proofs.Texts.{bytes-length}
use Rattle.header.specs.Contents.{content_alignment}
use Rattle.sheet.specs.Format.{Text, scalar, item_type, array, item, value}
use Rattle.sheet.proofs.SheetItems.{has_width, has-none, value-array}
use Rattle.sheet.proofs.BackFromAnswers.{step_yes}
use Rattle.sheet.proofs.PartsFound.{TextTold, scalar-told, sure_text_of, sure_text, onward}
use Rattle.plan.proofs.PartLengths.{size_cases, one-length, word-length, rows_more, rows_none}
use Rattle.sheet.specs.Steps.{step_of}
use Rattle.plan.specs.Steps.{content_read}
use Rattle.plan.proofs.ArraysSaid.{ArraySaid}

-- two answers of one run
pub never_both : {A : Type 0} {r : Answer A} {a : A} {q n p : ℕ} → accepted a q ≡ r → refused n p ≡ r → ⊥
never_both e f = let z : ◌≡◌ {A = ℕ} 0 1 = cc in omega arith

pub same_answer : {A : Type 0} {r : Answer A} {a b : A} {q o : ℕ} → accepted a q ≡ r → accepted b o ≡ r → (a ≡ b) × (q ≡ o)
same_answer e f = (cc, cc)

-- how much wider a size is in the header, for a text of an array
abbrev pub wider : Dialect → ℕ → ℕ
wider k t = if eqb t 8 then size_width k - 4 else 0

-- where the items of an array, which are no arrays, end, and how long it is in the header
pub record Measured (d : ℕ) (k : Dialect) (s : List ℕ) (at e t n q : ℕ) : Type 0 where
  pub ends : q ≤ e
  pub whole : size_width k + 4 + (e - q) + n * wider k t ≡ length (value_bytes (suc d) k (content_read (run (array d (item d)) s at)))
  pub few : t ≡ 8 → q + n * 4 ≤ e

-- the types of texts and arrays are no scalar's
pub not-text : (t : ℕ) → ltb 0 (scalar_width t) ≡ true → t ≡ 8 → ⊥
unfolding scalar_width
not-text t h e =
    let f : false ≡ true = rw e at h in
    let z : ◌≡◌ {A = ℕ} 0 1 = cc in
    omega arith

no_wider : (k : Dialect) (t : ℕ) → (t ≡ 8 → ⊥) → wider k t ≡ 0
no_wider k t h = rw (ne_eqb t 8 h)

much_wider : (k : Dialect) (t : ℕ) → eqb t 8 ≡ true → 4 + wider k t ≡ size_width k
much_wider k t h = rw h (omega (arith, (size_cases k).0))

module _ (s : List ℕ) where
  -- a text has as many bytes as its place tells
  text-bytes : {p q : ℕ} {a : Text} → TextTold s p a q → p + length a.bytes ≡ q
  text-bytes {p} {q} {a} h =
      let n = bytes-length s a.span (omega (arith, h.starts, h.ends, h.there)) in
      omega (arith, h.ends, n, ap length h.bytes)

  module _ (k : Dialect) where
    -- an item of an array
    scalar-item : (t v p : ℕ) {q : ℕ} → ltb 0 (scalar_width t) ≡ true → q ≡ p + scalar_width t → (length (value_bytes 1 k (a_scalar t v)) + p ≡ q + wider k t) × (t ≡ 8 → p + 4 ≤ q)
    scalar-item t v p i h = (omega (arith, one-length k 0 t v, no_wider k t (not-text t i)), λ e. absurd (not-text t i e))

    text-item : (t p : ℕ) {q : ℕ} {a : Text} → eqb t 8 ≡ true → TextTold s (p + 4) a q → (length (value_bytes 1 k (a_text a.bytes)) + p ≡ q + wider k t) × (t ≡ 8 → p + 4 ≤ q)
    text-item t p {a = a} j h = (omega (arith, word-length k 0 a.bytes, much_wider k t j, text-bytes h), λ e. omega (arith, text-bytes h))

    item_measure : (t p : ℕ) → Sure s (item 1 t) p (λ c q. (length (value_bytes 1 k c) + p ≡ q + wider k t) × (t ≡ 8 → p + 4 ≤ q))
    unfolding item array
    item_measure t p =
        sure_if (ltb 0 (scalar_width t)) _ _
        (λ i. sure_then (scalar-told s t p) (λ v q h. sure_done (scalar-item t v p i h.0)))
        (λ i. sure_if (eqb t 8) _ _ (λ j. sure_then (sure_text s p) (λ a q h. sure_done (text-item t p j h))) (λ j. sure_refuse))

    -- so many items
    items_measure : (n t p : ℕ) → Sure s (times n (item 1 t)) p (λ l q. (length (bytes_of_all (value_bytes 1 k) l) + p ≡ q + n * wider k t) × (t ≡ 8 → p + n * 4 ≤ q))
    unfolding each
    items_measure zero t p = sure_done (omega (arith, rows_none (value_bytes 1 k)), λ e. omega arith)
    items_measure (suc n) t p =
        sure_then (item_measure t p) (λ c q h. sure_then (items_measure n t q) (λ l r g. sure_done (
          omega (arith, rows_more (value_bytes 1 k) c l, h.0, g.0, suc-mul n (wider k t)),
          λ e. omega (arith, h.1 e, g.1 e),
        )))

    -- a value that is no array
    plain_measure : (e t p : ℕ) → Sure s (value e t) p (λ c q. (t ≡ 9 → ⊥) → length (value_bytes (suc depth) k c) + p ≡ q + (if eqb t 8 then size_width k else 0))
    unfolding value
    plain_measure e t p =
        sure_if (ltb 0 (scalar_width t)) _ _
        (λ i. sure_then (scalar-told s t p) (λ v q h. sure_done (λ other. rw (ne_eqb t 8 (not-text t i)) (omega (arith, one-length k depth t v, h.0)))))
        (λ i. sure_if (eqb t 8) _ _
        (λ j. sure_here _ (sure_then (sure_text_of s (e - p) p) (λ a q h. sure_done (λ other. rw j (omega (arith, word-length k depth a.bytes, text-bytes h))))))
        (λ j. sure_if (eqb t 9) _ _ (λ i. record { holds = λ c q h other. absurd (other (eqb-true t 9 i)) }) (λ j. sure_refuse)))

  -- an array of items that are no arrays
  pub array_measure : (d : ℕ) (k : Dialect) (at : ℕ) {e t n q : ℕ} → Some e ≡ step_of (run (array d (item d)) s at) → ArraySaid (item 1 t) (value_bytes 1 k) d k s at t n q → Measured d k s at e t n q
  array_measure d k at {e} {t} {n} {q} there said =
      let r = step_yes (run (times n (item 1 t)) s q) (there ∙ sym said.ends) in
      let m = (items_measure k n t q).holds r.what e r.is in
      let o = onward (times n (item 1 t)) s q r.is in
      let g : got (run (times n (item 1 t)) s q) ≡ r.what = ap got (sym r.is) in
      record { ends = o; whole = rw (said.size, g) (omega (arith, m.0, o)); few = m.1 }

-- what a value is: a scalar that was read, or nothing that gives an alignment
module _ (s : List ℕ) where
  pub other-value : (e t p : ℕ) → Sure s (value e t) p (λ c q. ltb 0 (scalar_width t) ≡ false → content_alignment c ≡ 32)
  unfolding value array
  other-value e t p =
      sure_if (ltb 0 (scalar_width t)) _ _ (λ i. sure_then whatever (λ v q h. sure_done (λ j. clash i j)))
      (λ i. sure_if (eqb t 8) _ _ (λ j. sure_here _ (sure_then whatever (λ a q h. sure_done (λ j. refl))))
      (λ j. sure_if (eqb t 9) _ _ (λ i. sure_then whatever (λ t q h. sure_check (item_type (depth - 1) t) 31 0 _ (λ i. sure_then whatever (λ n q h. sure_then whatever (λ l q h. sure_done (λ j. refl)))))) (λ j. sure_refuse)))

  scalar_read : (t p : ℕ) → Sure s (scalar t) p (λ v q. (o : ℕ) × (accepted v o ≡ run (number (scalar_width t) true) s p))
  unfolding scalar
  scalar_read t p = sure_then (sure_run whatever) (λ v q h. sure_check (if eqb t 7 then leb v 1 else true) 31 0 _ (λ e. sure_done (q, h.1)))

  pub scalar-value : (e t p : ℕ) → Sure s (value e t) p (λ c q. ltb 0 (scalar_width t) ≡ true → (v : ℕ) × (o : ℕ) × (accepted v o ≡ run (number (scalar_width t) true) s p) × (c ≡ a_scalar t v))
  unfolding value
  scalar-value e t p =
      sure_if (ltb 0 (scalar_width t)) _ _ (λ i. sure_then (scalar_read t p) (λ v q h. sure_done (λ j. (v, h.0, h.1, refl))))
      (λ i. record { holds = λ c q r j. clash j i })

-- what is heard of a value that was read
pub heard_one : {I : Type 0} {r : Answer (ValueContent I)} {c : ValueContent I} {q : ℕ} → accepted c q ≡ r → content_read r ≡ c
heard_one e = ap content_read (sym e)

accepted-parts : {A : Type 0} (r : Answer A) → is_accepted r ≡ true → (a : A) × (q : ℕ) × (accepted a q ≡ r)
accepted-parts (accepted a q) e = (a, q, refl)
accepted-parts (refused n p) e = let z : ◌≡◌ {A = ℕ} 0 1 = cc in absurd (omega arith)

-- the alignment of a value that was accepted
module _ (s : List ℕ) (e t at : ℕ) (there : is_accepted (run (value e t) s at) ≡ true) where
  pub says_nothing : 0 ≡ scalar_width t → 32 ≡ content_alignment (content_read (run (value e t) s at))
  says_nothing none =
      let r = accepted-parts (run (value e t) s at) there in
      rw (heard_one r.2) (sym ((other-value s e t at).holds r.0 r.1 r.2 (has-none t none)))

  module _ (w : Width) (wide : width_of w ≡ scalar_width t) where
    pub scalar-there : {n p : ℕ} → refused n p ≡ run (number (width_of w) true) s at → ⊥
    scalar-there missing =
        let r = accepted-parts (run (value e t) s at) there in
        let h = (scalar-value s e t at).holds r.0 r.1 r.2 (has_width w t wide) in
        never_both h.2 (rw wide at missing)

    pub says-scalar : {v q : ℕ} → accepted v q ≡ run (number (width_of w) true) s at → content_read (run (value e t) s at) ≡ a_scalar t v
    says-scalar {v} {q} read =
        let r = accepted-parts (run (value e t) s at) there in
        let h = (scalar-value s e t at).holds r.0 r.1 r.2 (has_width w t wide) in
        heard_one r.2 ∙ h.3 ∙ ap (a_scalar t) (same_answer h.2 (rw wide at read)).0

-- the sizes, as the code has them
module _ (s : List ℕ) (k : Dialect) (at : ℕ) where
  module _ {e t : ℕ} (there : Some e ≡ step_of (run (value e t) s at)) where
    pub text-size : t ≡ 8 → size_width k + (e - at) ≡ length (value_bytes (suc depth) k (content_read (run (value e t) s at)))
    text-size h =
        let r = step_yes (run (value e t) s at) there in
        let m = (plain_measure s k e t at).holds r.what e r.is (λ i. omega arith) in
        let o = onward (value e t) s at r.is in
        rw (heard_one r.is) (omega (arith, o, rw (eq-eqb t 8 h) at m))

    pub scalar_size : (t ≡ 8 → ⊥) → (t ≡ 9 → ⊥) → e - at ≡ length (value_bytes (suc depth) k (content_read (run (value e t) s at)))
    scalar_size h i =
        let r = step_yes (run (value e t) s at) there in
        let m = (plain_measure s k e t at).holds r.what e r.is i in
        let o = onward (value e t) s at r.is in
        rw (heard_one r.is) (omega (arith, o, rw (ne_eqb t 8 h) at m))

-- a value of the type 9 is an array
pub value-is-array : (s : List ℕ) (at e t : ℕ) → t ≡ 9 → run (value e t) s at ≡ run (array depth (item depth)) s at
value-is-array s at e t h = rw h (value-array s at e)
