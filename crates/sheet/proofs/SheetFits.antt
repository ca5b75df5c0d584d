-- What a sheet says can be written in every dialect: each number fits its field, and texts are not
-- too long. Assumes nothing.
use Rattle.std.specs.Prelude.{if◌then◌else◌}
use Prim.Native.Nat.{ℕ, zero, suc, ◌+◌, ◌-◌, ◌^◌, ◌≤◌, ◌<◌}
use mathlib.Core.Path.{◌≡◌, refl, sym, subst, ◌∙◌}
use mathlib.Core.List.{List}
use mathlib.Core.Bool.{Bool, true, false}
use native.Mathlib.Omega.{arith}
use lib.Dec.{leb, ltb, eqb}
use lib.ListN.{length, length-take}
use borrow.Author.Tests.{leb-true, ltb-true, eqb-true}
use Rattle.reading.specs.Back.{All, Sure}
use Rattle.fields.specs.Bytes.{Byte, Within}
use Rattle.reading.specs.Reading.{Reading, accepted}
use Rattle.reading.proofs.SureLaws.{sure_then, sure_done, sure_refuse, sure_here, sure_check, sure_if, sure_each, sure_so, whatever}
use Rattle.fields.proofs.NumberFields.{sure_number}
use Rattle.values.specs.Contents.{Content, type_of, type_in, Short, FitsValue, FitsEntry}
use Rattle.scalars.specs.Scalars.{FitsScalar, scalar_width}
use Rattle.tensors.specs.Contents.{FitsShape}
use Rattle.values.specs.Format.{size_width, depth}
use Rattle.values.specs.declared.Dialect.{Dialect}
use Rattle.scalars.proofs.Bits.{scalar_fits}
use Rattle.tensors.proofs.TensorsFit.{sure_lengths}
use Rattle.scalars.proofs.Types.{width_known, array_typed}
use Rattle.sheet.specs.Format.{Text, scalar, item_type, array, item, value, SheetEntry, entry_body, metadata, big_end, shape, SheetTensor, tensor_body, tensor}
use Rattle.sheet.specs.Sheet.{Records, sheet_of}
use Rattle.sheet.proofs.PartsFound.{TextTold, sure_text_of, sure_text, sure_framed}
use Rattle.sheet.proofs.WholeSheet.{sheet_entries, sheet_tensors}

-- a count of four bytes fits a size, whose width is four or eight
size_fits : (k : Dialect) (n : ℕ) → n < 256 ^ 4 → Within (size_width k) n
size_fits k n h = by (eqb k.version 1)
  where
    by : (b : Bool) → n < 256 ^ (if b then 4 else 8)
    by true = h
    by false = omega arith

-- the type of an array's items is one of the thirteen
item-type : (d t : ℕ) → item_type d t ≡ true → t ≤ 12
item-type d t = by (eqb t 9) refl
  where
    by : (b : Bool) → eqb t 9 ≡ b → (if b then ltb 0 d else leb t 12) ≡ true → t ≤ 12
    by true e h = omega (arith, eqb-true t 9 e)
    by false e h = leb-true t 12 h

-- a bool is 0 or 1
truth : (t v : ℕ) → (if eqb t 7 then leb v 1 else true) ≡ true → t ≡ 7 → v ≤ 1
truth t v e i = leb-true v 1 (subst (λ u. (if eqb u 7 then leb v 1 else true) ≡ true) i e)

-- a text's bytes are as many as its length
short-told : {s : List ℕ} {p : ℕ} {a : Text} {q : ℕ} → TextTold s p a q → Short a.bytes
short-told {s} {p} {a} h =
    let i : a.span.len ≤ 2 ^ 30 = h.short in
    subst Short h.bytes (rw length-take (omega arith))

module _ (s : List ℕ) (all : All Byte s) where
  scalar_sure : (t p : ℕ) → 0 < scalar_width t → Sure s (scalar t) p (λ v q. FitsScalar t v)
  unfolding scalar
  scalar_sure t p w =
      sure_then (sure_number s all (scalar_width t) true p) (λ v q h. sure_check (if eqb t 7 then leb v 1 else true) 31 0 _ (λ e. sure_done (scalar_fits t v (width_known t w) w h (truth t v e))))

  shape_sure : (p : ℕ) → Sure s shape p (λ x q. FitsShape x)
  unfolding shape
  shape_sure p = sure_then whatever (λ n q u. sure_check (leb n 4) 31 0 _ (λ e. sure_lengths big_end s all n (leb-true _ _ e) q))

  drawn_sure : (p : ℕ) → Sure s tensor_body p (λ t q. Short t.name × FitsShape t.parts.shape × Within 4 t.parts.kind)
  unfolding tensor_body
  drawn_sure p =
      sure_then (sure_text s p) (λ a q h. sure_then (sure_number s all 4 true q) (λ k r i. sure_then (shape_sure r) (λ x u g. sure_done (short-told h, g, i))))

  tensor_sure : (p : ℕ) → Sure s tensor p (λ t q. Short t.name × FitsShape t.parts.shape × Within 4 t.parts.kind)
  unfolding tensor
  tensor_sure p = sure_so (sure_framed s 2 (λ e. tensor_body) p) (λ t q h. (drawn_sure (p + 5)).holds t q h.1)

  pub drawn_fit : {c : Records} {e : ℕ} → accepted c e ≡ sheet_of s → All (λ (t : SheetTensor). Short t.name × FitsShape t.parts.shape × Within 4 t.parts.kind) c.tensors
  drawn_fit {c} {e} h = ((sure_each _ _ (λ z p. tensor_sure p) (length c.tensors) tt c.first).holds c.tensors e (sheet_tensors s h)).1

  module _ (k : Dialect) where
    -- an array, where its items are sure to fit
    array_sure : (d : ℕ) (items : ℕ → Reading (Content d)) → ((t p : ℕ) → t ≤ 12 → Sure s (items t) p (λ c q. (type_in d c ≡ t) × FitsValue d k c)) → (p : ℕ)
        → Sure s (array d items) p (λ c q. (type_of c ≡ 9) × FitsValue (suc d) k c)
    unfolding array
    array_sure zero items one p = sure_refuse
    array_sure (suc d) items one p =
        sure_then whatever (λ t q u. sure_check (item_type d t) 31 0 _ (λ e. sure_then (sure_number s all 4 true q) (λ n r h.
        let i = item-type d t e in
        sure_then (sure_each _ _ (λ z o. one t o i) n tt r) (λ l o g.
        sure_done (refl, (omega arith, i, subst (Within (size_width k)) (sym g.0) (size_fits k n h), g.1))))))

    -- an item, by the depth
    item_sure : (d t p : ℕ) → t ≤ 12 → Sure s (item d t) p (λ c q. (type_in d c ≡ t) × FitsValue d k c)
    unfolding item
    item_sure zero t p i = sure_refuse
    item_sure (suc d) t p i =
        sure_if (ltb 0 (scalar_width t)) _ _ (λ e. sure_then (scalar_sure t p (ltb-true _ _ e)) (λ v q h. sure_done (refl, h)))
        (λ e. sure_if (eqb t 8) _ _ (λ g. sure_then (sure_text s p) (λ a q h. sure_done (sym (eqb-true t 8 g), short-told h)))
        (λ g. sure_so (array_sure d (item d) (item_sure d) p) (λ c q h. (h.0 ∙ sym (array_typed t i e g), h.1))))

    value_sure : (e t p : ℕ) → Sure s (value e t) p (λ c q. FitsValue (suc depth) k c)
    unfolding value
    value_sure e t p =
        sure_if (ltb 0 (scalar_width t)) _ _ (λ i. sure_then (scalar_sure t p (ltb-true _ _ i)) (λ v q h. sure_done h))
        (λ i. sure_if (eqb t 8) _ _ (λ j. sure_here _ (sure_then (sure_text_of s (e - p) p) (λ a q h. sure_done (short-told h))))
        (λ j. sure_if (eqb t 9) _ _ (λ g. sure_so (array_sure depth (item depth) (item_sure depth) p) (λ c q h. h.1)) (λ g. sure_refuse)))

    keyed_sure : (e p : ℕ) → Sure s (entry_body e) p (λ l q. FitsEntry k l.content)
    unfolding entry_body
    keyed_sure e p =
        sure_then (sure_text s p) (λ a q h. sure_then whatever (λ t r u. sure_here _ (sure_then (value_sure e t r) (λ c o g. sure_done (record { key = short-told h; value = g })))))

    metadata_sure : (p : ℕ) → Sure s metadata p (λ l q. FitsEntry k l.content)
    unfolding metadata
    metadata_sure p = sure_so (sure_framed s 1 entry_body p) (λ l q h. (keyed_sure q (p + 5)).holds l q h.1)

  pub sheet_fits : {c : Records} {e : ℕ} → accepted c e ≡ sheet_of s → (k : Dialect) → All (λ (l : SheetEntry). FitsEntry k l.content) c.entries
  sheet_fits {c} h k = ((sure_each _ _ (λ z p. metadata_sure k p) (length c.entries) tt 1).holds c.entries c.first (sheet_entries s h)).1
