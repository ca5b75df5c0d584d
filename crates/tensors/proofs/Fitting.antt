-- What must fit of a tensor, as one step: whoever walks through a tensor's program takes it from
-- here, and does not see its tests. Assumes nothing.
use Rattle.std.specs.Prelude.{Some, None}
use Prim.Native.Nat.{ℕ, ◌+◌, ◌*◌, ◌/◌, ◌≤◌, ◌<◌}
use mathlib.Core.Path.{◌≡◌, refl}
use mathlib.Core.List.{List, [], ◌∷◌}
use mathlib.Core.Bool.{Bool, true, false}
use lib.Dec.{leb}
use borrow.Author.Tests.{le-leb, lt-leb, leb-true}
use Rattle.reading.specs.Back.{Sure}
use Rattle.reading.specs.Ceilings.{under, Low}
use Rattle.reading.specs.Reading.{Reading, done, accepted, refused, run, ◌>>◌, check, ◌>>=◌}
use Rattle.reading.specs.Refusals.{is_one_of, Refuses}
use Rattle.reading.proofs.CeilingLaws.{low-checked, low-done}
use Rattle.reading.proofs.RefusalLaws.{refuses_then, refuses_done, refuses_check}
use Rattle.reading.proofs.SureLaws.{sure_done, sure_check}
use Rattle.kinds.specs.Shape.{greatest, first_length, whole_blocks, product_of, products_fit, bounded_product, size_within, size_of}
use Rattle.kinds.specs.Table.{block_of}
use Rattle.kinds.proofs.Products.{answered, refused as over}
use Rattle.tensors.specs.Format.{lengths, fitting}
use Rattle.values.specs.declared.Span.{Span}
use Rattle.tensors.specs.declared.Shape.{Shape}
use Rattle.tensors.specs.declared.KindAndOffset.{KindAndOffset}
use Rattle.tensors.specs.declared.Tensor.{Tensor}
use Rattle.reading.specs.declared.Limits.{Limits}

-- The step as a whole.

-- what was tested of a tensor that is accepted
pub record Tested (before : ℕ) (x : Shape) (k : ℕ) : Type 0 where
  pub whole : whole_blocks (first_length (lengths x)) k ≡ true
  pub products : products_fit (lengths x) ≡ true
  pub size : size_within (lengths x) k ≡ true
  pub total : before + product_of (lengths x) ≤ greatest

-- the tensor of what was read
abbrev pub measured : Span → Shape → KindAndOffset → Tensor
measured name x y = record { name = name; shape = x; kind = y.kind; offset = y.offset; parameters = product_of (lengths x); size = size_of (lengths x) y.kind }

-- the refusals of what must fit
abbrev pub fitting_refusals : List ℕ
fitting_refusals = 17 ∷ 13 ∷ 14 ∷ 15 ∷ []

module _ (p total : ℕ) (name : Span) (x : Shape) (y : KindAndOffset) where
  -- what is so of the tensor once all was tested is sure
  pub sure_fitting : {s : List ℕ} {q : ℕ} {Q : Tensor → ℕ → Type 0} → (Tested total x y.kind → Q (measured name x y) q) → Sure s (fitting p total name x y) q Q
  sure_fitting so =
      sure_check (whole_blocks (first_length (lengths x)) y.kind) 17 p _ (λ d. sure_check (products_fit (lengths x)) 13 p _ (λ e. sure_check (size_within (lengths x) y.kind) 14 p _ (λ f.
      sure_check (leb (total + product_of (lengths x)) greatest) 15 p _ (λ g. sure_done (so (record { whole = d; products = e; size = f; total = leb-true _ _ g }))))))

  -- it has no mark
  pub low-fitting : (l : Limits) → Low l (fitting p total name x y)
  low-fitting l =
      low-checked l (whole_blocks (first_length (lengths x)) y.kind) 17 p _ (λ d. low-checked l (products_fit (lengths x)) 13 p _ (λ e. low-checked l (size_within (lengths x) y.kind) 14 p _ (λ f.
      low-checked l (leb (total + product_of (lengths x)) greatest) 15 p _ (λ g. low-done l _))))

  -- it refuses by those numbers alone, at p
  pub refuses_fitting : {l : Limits} {s : List ℕ} {P : ℕ → ℕ → Type 0} → ((n : ℕ) → is_one_of n fitting_refusals ≡ true → P n p) → Refuses l s P (fitting p total name x y)
  refuses_fitting may =
      refuses_then (refuses_check (whole_blocks (first_length (lengths x)) y.kind) 17 p (λ e. may 17 refl)) (λ u. refuses_then (refuses_check (products_fit (lengths x)) 13 p (λ e. may 13 refl)) (λ v.
      refuses_then (refuses_check (size_within (lengths x) y.kind) 14 p (λ e. may 14 refl)) (λ w.
      refuses_then (refuses_check (leb (total + product_of (lengths x)) greatest) 15 p (λ e. may 15 refl)) (λ z. refuses_done))))

-- it is judged without a byte, and whatever the ceilings: each test is, where what follows it is
judged-check : (l : Limits) (s : List ℕ) (q : ℕ) (b : Bool) (n o : ℕ) (m : Reading Tensor) → run (under l m) s q ≡ run m [] q → run (under l (check b n o >> m)) s q ≡ run (check b n o >> m) [] q
unfolding run under ◌>>=◌
judged-check l s q true n o m rest = rest
judged-check l s q false n o m rest = refl

judged-done : (l : Limits) (s : List ℕ) (q : ℕ) (t : Tensor) → run (under l (done t)) s q ≡ run (done t) [] q
unfolding run under
judged-done l s q t = refl

pub judged : (l : Limits) (s : List ℕ) (q p total : ℕ) (name : Span) (x : Shape) (y : KindAndOffset) → run (under l (fitting p total name x y)) s q ≡ run (fitting p total name x y) [] q
judged l s q p total name x y =
    judged-check l s q (whole_blocks (first_length (lengths x)) y.kind) 17 p _ (judged-check l s q (products_fit (lengths x)) 13 p _ (judged-check l s q (size_within (lengths x) y.kind) 14 p _
    (judged-check l s q (leb (total + product_of (lengths x)) greatest) 15 p _ (judged-done l s q _))))

-- Its tests one after the other, as `kinds` answers them of the shape and the kind.

module _ (p total : ℕ) (name : Span) (x : Shape) (y : KindAndOffset) (q : ℕ) where
  pub no_whole : false ≡ whole_blocks x.first y.kind → refused 17 p ≡ run (fitting p total name x y) [] q
  unfolding run ◌>>=◌
  no_whole w = rw (← w)

  module _ (w : true ≡ whole_blocks x.first y.kind) where
    pub no_product : None ≡ bounded_product (lengths x) → refused 13 p ≡ run (fitting p total name x y) [] q
    unfolding run ◌>>=◌
    no_product e = rw (← w, over (products_fit (lengths x)) _ e)

    module _ {n : ℕ} (e : Some n ≡ bounded_product (lengths x)) where
      pub no_size : false ≡ leb (n * (block_of y.kind).bytes) greatest → refused 14 p ≡ run (fitting p total name x y) [] q
      unfolding run ◌>>=◌
      no_size f = let h = answered (products_fit (lengths x)) _ e in rw (← w, h.0, h.1, ← f)

      module _ (f : true ≡ leb (n * (block_of y.kind).bytes) greatest) where
        pub no_total : greatest < total + n → refused 15 p ≡ run (fitting p total name x y) [] q
        unfolding run ◌>>=◌
        no_total g = let h = answered (products_fit (lengths x)) _ e in rw (← w, h.0, h.1, ← f, lt-leb _ _ g)

        pub all-fits : total + n ≤ greatest → {b : ℕ} → b ≡ n * (block_of y.kind).bytes / (block_of y.kind).numbers
            → accepted (record { name = name; shape = x; kind = y.kind; offset = y.offset; parameters = n; size = b }) q ≡ run (fitting p total name x y) [] q
        unfolding run ◌>>=◌
        all-fits g s = let h = answered (products_fit (lengths x)) _ e in rw (← w, h.0, h.1, ← f, le-leb _ _ g, s)
