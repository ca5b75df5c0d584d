-- What was accepted once can be read again with no test: each field of a tensor stands where those
-- before it end. Assumes nothing.
use Prim.Native.Nat.{ℕ, ◌+◌, ◌-◌, ◌*◌, ◌^◌, ◌≤◌, ◌<◌, min}
use mathlib.Core.Path.{◌≡◌, refl, sym, ap, subst, ◌∙◌}
use mathlib.Core.List.{List}
use mathlib.Core.Bool.{Bool, true}
use native.Mathlib.Omega.{arith}
use lib.Dec.{leb, ltb}
use lib.ListN.{length, take, drop}
use borrow.Author.Tests.{leb-true, ltb-true, ltb-false}
use Rattle.reading.specs.Back.{Sure}
use Rattle.reading.specs.Each.{each}
use Rattle.reading.specs.Reading.{a_kind, Answer, accepted, refused, run, here, is_accepted, ◌>>=◌}
use Rattle.fields.proofs.NumberFields.{number-told}
use Rattle.fields.specs.Value.{value, number}
use Rattle.reading.proofs.RunLaws.{goes_on}
use Rattle.reading.proofs.SureLaws.{sure_then, sure_done, sure_here, sure_mark, sure_check, sure_if, sure_field, sure_so, sure_run, whatever}
use Rattle.reading.proofs.Repetition.{each-never}
use Rattle.kinds.specs.Shape.{products_fit, size_within}
use Rattle.kinds.specs.Table.{known_kind}
use Rattle.tensors.specs.Format.{lengths, length_at, lengths_of, shape, kind_and_offset, tensor, offset_place, total_of}
use Rattle.values.specs.Format.{size_width, size, text_looking, text}
use Rattle.tensors.specs.Steps.{length_in, shape_in, in_order_of, after_name, tensor_of}
use Rattle.values.specs.declared.Dialect.{Dialect}
use Rattle.tensors.specs.declared.Shape.{Shape}
use Rattle.values.specs.declared.Span.{Span}
use Rattle.tensors.specs.declared.KindAndOffset.{KindAndOffset}
use Rattle.tensors.specs.declared.Tensor.{Tensor}
use Rattle.tensors.specs.declared.AfterName.{AfterName}
use Rattle.tensors.proofs.Fitting.{sure_fitting}

-- what an answer that is no refusal holds
held : {A : Type 0} (r : Answer A) → is_accepted r ≡ true → (a : A) × (q : ℕ) × (accepted a q ≡ r)
held (accepted a q) h = (a, q, refl)
held (refused n p) h = let z : ◌≡◌ {A = ℕ} 0 1 = cc in absurd (omega arith)

-- what one answer holds, twice
same_parts : {A : Type 0} {a b : A} {p q : ℕ} → accepted a p ≡ accepted b q → (a ≡ b) × (p ≡ q)
same_parts e = (cc, cc)

-- v is the number of the field of w bytes at p, which is wholly there, and q is the place after it
record Field (s : List ℕ) (w : ℕ) (big : Bool) (p v q : ℕ) : Type 0 where
  is : v ≡ value big (take w (drop p s))
  after : q ≡ p + w
  inside : p + w ≤ length s

sure_there : (s : List ℕ) (w : ℕ) (big : Bool) (p : ℕ) → Sure s (number w big) p (λ v q. Field s w big p v q)
sure_there s w big p = sure_so (number-told s w big p) (λ v q h. record { is = h.2; after = h.0; inside = subst (λ x. x ≤ length s) h.0 h.1 })

-- Names.

-- the name whose size, of w bytes, stands at p
abbrev pub name_there : List ℕ → ℕ → Bool → ℕ → Span
name_there s p big w = record { place = p + w; len = value big (take w (drop p s)) }

-- the size is there, the name is what it says, and its bytes are there
record Named (k : Dialect) (s : List ℕ) (p w : ℕ) (a : Span) (q : ℕ) : Type 0 where
  inside : p + w ≤ length s
  is : accepted a q ≡ accepted (name_there s p k.big w) (p + w + (name_there s p k.big w).len)
  ends : q ≤ length s

sure_name : (k : Dialect) (s : List ℕ) (p : ℕ) → Sure s (text k) p (λ a q. Named k s p (size_width k) a q)
unfolding text text_looking size
sure_name k s p =
    sure_here _ (sure_then (sure_there s (size_width k) k.big p) (λ n q h. sure_check (leb n (2 ^ 30)) 7 p _ (λ e.
    sure_here _ (sure_field (λ there. record { inside = h.inside; is = rw (h.is, h.after) refl; ends = there })))))

-- what is so of a name that is there, where a size has w bytes
pub record NameThere (k : Dialect) (s : List ℕ) (p w : ℕ) : Type 0 where
  pub inside : p + w ≤ length s
  pub is : accepted (name_there s p k.big w) (p + w + (name_there s p k.big w).len) ≡ run (text k) s p

-- a name that was accepted is there
pub name-there : (k : Dialect) (s : List ℕ) (p : ℕ) → is_accepted (run (text k) s p) ≡ true → {w : ℕ} → size_width k ≡ w → NameThere k s p w
name-there k s p all wide =
    let r = held (run (text k) s p) all in
    let h = rw wide at ((sure_name k s p).holds r.0 r.1 r.2) in
    record { inside = h.inside; is = sym h.is ∙ r.2 }

-- a name that was accepted ends within the bytes
pub name-ends : (k : Dialect) (s : List ℕ) (p : ℕ) {a : Span} {q : ℕ} → accepted a q ≡ run (text k) s p → q ≤ length s
name-ends k s p {a} {q} e = ((sure_name k s p).holds a q e).ends

-- What stands after a name.

-- the length i, where those before it end at p
sure_length : (s : List ℕ) (big : Bool) (n from i : ℕ) {p : ℕ} → p ≡ from + 8 * min i n → p ≤ length s
    → Sure s (length_at (in_order_of 3 big) n i) p (λ v q. (v ≡ length_in s from big n i) × (q ≡ from + 8 * min (i + 1) n) × (q ≤ length s))
unfolding length_at
sure_length s big n from i {p} at within =
    sure_if (ltb i n) _ _
    (λ e.
    let below : i < n = ltb-true i n e in
    let place : p ≡ from + 8 * i = omega arith in
    sure_so (sure_there s 8 big p) (λ v q h. (rw e (rw place at h.is), omega (arith, h.after), omega (arith, h.after, h.inside))))
    (λ e.
    let past : n ≤ i = ltb-false i n e in
    sure_done (rw e refl, omega arith, within))

sure_lengths : (s : List ℕ) (big : Bool) (n from : ℕ) → n ≤ 4 → from ≤ length s → Sure s (lengths_of (in_order_of 3 big) n) from (λ x q. (x ≡ shape_in s from big n) × (q ≡ from + 8 * n) × (q ≤ length s))
unfolding lengths_of
sure_lengths s big n from few within =
    sure_then (sure_length s big n from 0 (omega arith) within) (λ a p f. sure_then (sure_length s big n from 1 f.1 f.2) (λ b q g.
    sure_then (sure_length s big n from 2 g.1 g.2) (λ c r h. sure_then (sure_length s big n from 3 h.1 h.2) (λ d u i.
    sure_done (rw (f.0, g.0, h.0, i.0) refl, omega (arith, i.1), i.2)))))

-- the shape that begins with the dimension count n at p
record Shaped (s : List ℕ) (p : ℕ) (big : Bool) (n : ℕ) (x : Shape) (q : ℕ) : Type 0 where
  few : n ≤ 4
  is : x ≡ shape_in s (p + 4) big n
  after : q ≡ p + 4 + 8 * n

sure_shape : (s : List ℕ) (p : ℕ) (big : Bool) → Sure s (shape (in_order_of 3 big)) p (λ x q. Shaped s p big (value big (take 4 (drop p s))) x q)
unfolding shape
sure_shape s p big =
    sure_here _ (sure_then (sure_there s 4 big p) (λ n q h. sure_check (leb n 4) 10 p _ (λ e.
    sure_so (sure_lengths s big n q (leb-true n 4 e) (omega (arith, h.after, h.inside))) (λ x r g.
    subst (λ m. Shaped s p big m x r) h.is (record { few = leb-true n 4 e; is = rw h.after at g.0; after = omega (arith, h.after, g.1) })))))

-- the kind and the offset at p
record Kept (s : List ℕ) (p : ℕ) (big : Bool) (y : KindAndOffset) (q : ℕ) : Type 0 where
  inside : p + 12 ≤ length s
  kind : y.kind ≡ value big (take 4 (drop p s))
  offset : y.offset ≡ value big (take 8 (drop (p + 4) s))
  after : q ≡ p + 12

sure_stored : (s : List ℕ) (p : ℕ) (big : Bool) → Sure s (kind_and_offset (in_order_of 3 big)) p (λ y q. Kept s p big y q)
unfolding kind_and_offset
sure_stored s p big =
    sure_here _ (sure_then (sure_there s 4 big p) (λ t q h. sure_then (sure_there s 8 big q) (λ o r g. sure_check (known_kind t) 11 p _ (λ e.
    sure_mark a_kind t p _ (sure_done (record { inside = omega (arith, h.after, g.inside); kind = h.is; offset = rw h.after at g.is; after = omega (arith, h.after, g.after) }))))))

-- what stands after a name that ends at p, where it begins with the dimension count n
abbrev pub rest_there : List ℕ → ℕ → Bool → ℕ → AfterName
rest_there s p big n =
    record {
      shape = shape_in s (p + 4) big n;
      kind = value big (take 4 (drop (p + 4 + 8 * n) s));
      offset = value big (take 8 (drop (p + 4 + 8 * n + 4) s));
      next = p + 4 + 8 * n + 12;
    }

-- it is there
record Rested (s : List ℕ) (p : ℕ) (big : Bool) (n : ℕ) (x : AfterName) (q : ℕ) : Type 0 where
  few : n ≤ 4
  inside : p + 4 + 8 * n + 12 ≤ length s
  is : accepted x q ≡ accepted (rest_there s p big n) (p + 4 + 8 * n + 12)

sure_rest : (s : List ℕ) (p : ℕ) (big : Bool) → Sure s (after_name big) p (λ x q. Rested s p big (value big (take 4 (drop p s))) x q)
unfolding after_name
sure_rest s p big =
    sure_then (sure_shape s p big) (λ x q h. sure_then (sure_stored s q big) (λ y r g. sure_here _ (sure_done (
    let k = rw h.after at g.kind in
    let o = rw h.after at g.offset in
    let n = rw h.after at g.after in
    record { few = h.few; inside = omega (arith, h.after, g.inside); is = rw (h.is, k, o, n) refl }))))

-- what is so of it where it is there
pub record RestThere (s : List ℕ) (p : ℕ) (big : Bool) (n : ℕ) : Type 0 where
  pub few : n ≤ 4
  pub inside : p + 4 + 8 * n + 12 ≤ length s
  pub is : accepted (rest_there s p big n) (p + 4 + 8 * n + 12) ≡ run (after_name big) s p

-- what was accepted after a name is there
pub rest-there : (s : List ℕ) (p : ℕ) (big : Bool) → is_accepted (run (after_name big) s p) ≡ true → {n : ℕ} → n ≡ value big (take 4 (drop p s)) → RestThere s p big n
rest-there s p big all count =
    let r = held (run (after_name big) s p) all in
    let h = (sure_rest s p big).holds r.0 r.1 r.2 in
    subst (RestThere s p big) (sym count) (record { few = h.few; inside = h.inside; is = sym h.is ∙ r.2 })

-- Tensors.

-- a name does not look at the magic, and neither the shape nor the kind and the offset look at it or
-- at the version
pub order-text : (k : Dialect) → text k ≡ text (in_order_of k.version k.big)
unfolding text text_looking size
order-text k = refl

order-shape : (k : Dialect) → shape k ≡ shape (in_order_of 3 k.big)
unfolding shape lengths_of length_at
order-shape k = refl

order-stored : (k : Dialect) → kind_and_offset k ≡ kind_and_offset (in_order_of 3 k.big)
unfolding kind_and_offset
order-stored k = refl

-- the parts of the tensor t at p, which ends at q, and what fits of it
record Parts (k : Dialect) (s : List ℕ) (p : ℕ) (t : Tensor) (q : ℕ) : Type 0 where
  name : Span
  middle : ℕ
  again : AfterName
  named : accepted name middle ≡ run (text k) s p
  rested : accepted again again.next ≡ run (after_name k.big) s middle
  ends : again.next ≡ q
  is : tensor_of name again ≡ t
  products : products_fit (lengths again.shape) ≡ true
  size : size_within (lengths again.shape) again.kind ≡ true

-- a shape, and then a kind and an offset
rest_of : (k : Dialect) (s : List ℕ) (p : ℕ) {x : Shape} {q : ℕ} → accepted x q ≡ run (shape k) s p → {y : KindAndOffset} {r : ℕ} → accepted y r ≡ run (kind_and_offset k) s q
    → accepted (record { shape = x; kind = y.kind; offset = y.offset; next = r }) r ≡ run (after_name k.big) s p
unfolding after_name here run ◌>>=◌
rest_of k s p {x} {q} e {y} {r} f =
    sym (goes_on (shape (in_order_of 3 k.big)) _ s p (e ∙ ap (λ m. run m s p) (order-shape k)) ∙ goes_on (kind_and_offset (in_order_of 3 k.big)) _ s q (f ∙ ap (λ m. run m s q) (order-stored k)))

sure_parts : (k : Dialect) (s : List ℕ) (total p : ℕ) → Sure s (tensor k total) p (λ t q. Parts k s p t q)
unfolding tensor
sure_parts k s total p =
    sure_here _ (sure_then (sure_run whatever) (λ a q e. sure_then (sure_run whatever) (λ x r f. sure_then (sure_run whatever) (λ y u g.
    sure_fitting p total a x y (λ tested.
    (record {
      name = a;
      middle = q;
      again = record { shape = x; kind = y.kind; offset = y.offset; next = u };
      named = e.1;
      rested = rest_of k s q f.1 g.1;
      ends = refl;
      is = refl;
      products = tested.products;
      size = tested.size;
    }))))))

-- a tensor's offset is its last field
pub offset-last : (k : Dialect) (s : List ℕ) (total p : ℕ) → Sure s (tensor k total) p (λ t q. q ≡ offset_place t + 8)
offset-last k s total p =
    sure_so (sure_parts k s total p) (λ t q h.
    let n = same_parts ((sure_name k s p).holds h.name h.middle h.named).is in
    let r = same_parts ((sure_rest s h.middle k.big).holds h.again h.again.next h.rested).is in
    let place = ap (λ (a : Span). a.place) n.0 in
    let len = ap (λ (a : Span). a.len) n.0 in
    let dimensions = ap (λ (x : AfterName). x.shape.dimensions) r.0 in
    subst (λ (x : Tensor). q ≡ offset_place x + 8) h.is (omega (arith, place, len, n.1, dimensions, r.1, h.ends)))

-- a name and what stands after it are a tensor, where the total is the one given, and all of it
-- fits
pub record Found (k : Dialect) (s : List ℕ) (p total : ℕ) (a : Span) (x : AfterName) : Type 0 where
  pub read : accepted (tensor_of a x) x.next ≡ run (tensor k total) s p
  pub products : products_fit (lengths x.shape) ≡ true
  pub size : size_within (lengths x.shape) x.kind ≡ true

-- where as many as are left are there, so is the next, and its parts are what is read again
module _ (k : Dialect) (s : List ℕ) (p n i total : ℕ) (below : i < n) (all : is_accepted (run (each (tensor k) total_of (n - i) total) s p) ≡ true) where
  next_cases : (r : Answer Tensor) → r ≡ run (tensor k total) s p → (t : Tensor) × (q : ℕ) × (accepted t q ≡ run (tensor k total) s p) × Parts k s p t q
  next_cases (accepted t q) e = (t, q, e, (sure_parts k s total p).holds t q e)
  next_cases (refused w o) e = absurd (each-never (tensor k) total_of s p n i total below e all)

  next : (t : Tensor) × (q : ℕ) × (accepted t q ≡ run (tensor k total) s p) × Parts k s p t q
  next = next_cases (run (tensor k total) s p) refl

  pub next-name : is_accepted (run (text k) s p) ≡ true
  next-name = ap is_accepted (sym next.3.named)

  next-found : Found k s p total next.3.name next.3.again
  next-found =
      let g = next.3 in
      record {
        read = rw (g.is, g.ends) next.2;
        products = g.products;
        size = g.size;
      }

  module _ {a : Span} (e : accepted a (a.place + a.len) ≡ run (text k) s p) where
    same_name : accepted next.3.name next.3.middle ≡ accepted a (a.place + a.len)
    same_name = next.3.named ∙ sym e

    middle : a.place + a.len ≡ next.3.middle
    middle = let h = same_name in cc

    pub next-rest : is_accepted (run (after_name k.big) s (a.place + a.len)) ≡ true
    next-rest = rw middle (ap is_accepted (sym next.3.rested))

    pub found-again : {x : AfterName} → accepted x x.next ≡ run (after_name k.big) s (a.place + a.len) → Found k s p total a x
    found-again {x} f =
        let h = same_name in
        let g = next.3.rested ∙ ap (run (after_name k.big) s) (sym middle) ∙ sym f in
        let name : next.3.name ≡ a = cc in
        let again : next.3.again ≡ x = cc in
        subst (λ b. Found k s p total b x) name (subst (Found k s p total next.3.name) again next-found)
