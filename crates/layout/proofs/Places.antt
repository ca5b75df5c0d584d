-- What is answered of a tensor's place as its tests go, one after the other. Assumes nothing.
use Rattle.std.specs.Prelude.{Some, None, Result, Ok, Err}
use Rattle.reading.specs.Choice.{require}
use Prim.Native.Nat.{ℕ, suc, ◌+◌, ◌*◌, ◌≤◌, ◌<◌}
use mathlib.Core.Path.{◌≡◌, refl, sym, ap}
use Rattle.reading.proofs.Sames.{same_ok}
use mathlib.Core.Bool.{Bool, true, false}
use mathlib.Core.List.{List, [], ◌∷◌}
use native.Mathlib.Omega.{arith}
use lib.Dec.{leb}
use borrow.Author.Tests.{le-leb, lt-leb, leb-true}
use Rattle.kinds.specs.Table.{block_of, written_kind}
use Rattle.kinds.specs.Shape.{greatest, first_length, whole_blocks, product_of, products_fit, size_within, size_of}
use Rattle.kinds.proofs.Products.{answered, refused}
use Rattle.kinds.proofs.WholeBlocks.{size_exact}
use Rattle.kinds.proofs.Answers.{Sized, Unsized, no_whole, no_product, no_size}
use Rattle.layout.specs.Padding.{padded, padded_of}
use Rattle.layout.specs.Layout.{end_after, laid_after, place_of, Piece, laid_out_from, refused_at, ahead, layout_from}
use Rattle.layout.specs.declared.Laid.{Laid}
use Rattle.layout.specs.declared.Placed.{Placed}

module _ (a : ℕ) (laid : Laid) (x : List ℕ) (k : ℕ) where
  -- the kind is not written
  pub not_written : written_kind k ≡ false → Err 35 ≡ place_of a laid x k
  unfolding place_of
  not_written e = rw e

  -- it is, and has no size
  pub not-sized : {w : ℕ} → written_kind k ≡ true → Unsized x k w → Err w ≡ place_of a laid x k
  unfolding place_of
  not-sized written (no_whole d w) = rw (d, written, w)
  not-sized written (no_product d e w) = rw (d, written, e, w)
  not-sized written (no_size d e f w) = rw (d, written, e, f, w)

-- a kind that is written, and a size
module _ (a : ℕ) (laid : Laid) {x : List ℕ} {k p b : ℕ} (written : written_kind k ≡ true) (z : Sized x k p b) where
  -- then the sum of products does not fit
  pub no_total : greatest < laid.total + p → Err 15 ≡ place_of a laid x k
  unfolding place_of
  no_total h = rw (z.whole, written, z.products, z.size, ← z.bytes, ← z.parameters, lt-leb _ _ h)

  module _ (sum : laid.total + p ≤ greatest) where
    -- it does, and the end does not
    pub no_end : greatest < laid.next + b → Err 36 ≡ place_of a laid x k
    unfolding place_of
    no_end h = rw (z.whole, written, z.products, z.size, ← z.bytes, ← z.parameters, le-leb _ _ sum, lt-leb _ _ h)

    module _ (end : laid.next + b ≤ greatest) where
      -- it does, and its padding does not
      pub no_padding : None ≡ padded_of a (laid.next + b) → Err 36 ≡ place_of a laid x k
      unfolding place_of
      no_padding e =
          let h = refused (leb (padded a (laid.next + b)) greatest) (padded a (laid.next + b)) e in
          rw (z.whole, written, z.products, z.size, ← z.bytes, ← z.parameters, le-leb _ _ sum, le-leb _ _ end, h)

      -- that does too
      pub placed : {n : ℕ} → Some n ≡ padded_of a (laid.next + b) → Ok (record { offset = laid.next; size = b; laid = record { total = laid.total + p; next = n } }) ≡ place_of a laid x k
      unfolding place_of
      placed e =
          let h = answered (leb (padded a (laid.next + b)) greatest) (padded a (laid.next + b)) e in
          rw (z.whole, written, z.products, z.size, ← z.bytes, ← z.parameters, le-leb _ _ sum, le-leb _ _ end, h.0, h.1)

-- a list by its first tensor: no more of them, one that is refused, or one that is placed
module _ (a : ℕ) (laid : Laid) (i : ℕ) where
  pub layout_end : layout_from a laid i [] ≡ laid_out_from [] laid
  unfolding layout_from
  layout_end = refl

  module _ (p : Piece) (pieces : List Piece) where
    pub layout_stops : {w : ℕ} → place_of a laid p.lengths p.kind ≡ Err w → layout_from a laid i (p ∷ pieces) ≡ refused_at w i
    unfolding layout_from
    layout_stops e = rw e

    pub layout_goes_on : {o s : ℕ} {after : Laid} → place_of a laid p.lengths p.kind ≡ Ok (record { offset = o; size = s; laid = after })
        → layout_from a laid i (p ∷ pieces) ≡ ahead o (layout_from a after (suc i) pieces)
    unfolding layout_from
    layout_goes_on e = rw e

-- what an answered place tells: its tests held, and it is where the tensor before it left off
pub record PlacedBy (a : ℕ) (laid : Laid) (x : List ℕ) (k o s : ℕ) (after : Laid) : Type 0 where
  pub written : written_kind k ≡ true
  pub whole : whole_blocks (first_length x) k ≡ true
  pub products : products_fit x ≡ true
  pub size : size_within x k ≡ true
  pub sum : laid.total + product_of x ≤ greatest
  pub end : end_after laid x k ≤ greatest
  pub padding : padded a (end_after laid x k) ≤ greatest
  pub offset : o ≡ laid.next
  pub bytes : s ≡ size_of x k
  pub then : after ≡ laid_after a laid x k

passed : (t : Bool) (w : ℕ) (rest : Result Placed ℕ) {o s : ℕ} {after : Laid} → require t (Err w) rest ≡ Ok (record { offset = o; size = s; laid = after }) → (t ≡ true) × (rest ≡ Ok (record { offset = o; size = s; laid = after }))
passed true w rest e = (refl, e)
passed false w rest e = let z : ◌≡◌ {A = ℕ} 0 1 = cc in absurd (omega arith)

pub placed_by : (a : ℕ) (laid : Laid) (x : List ℕ) (k : ℕ) {o s : ℕ} {after : Laid} → place_of a laid x k ≡ Ok (record { offset = o; size = s; laid = after }) → PlacedBy a laid x k o s after
unfolding place_of
placed_by a laid x k {o} {s} {after} e =
    let kind = passed _ _ _ e in
    let first = passed _ _ _ kind.1 in
    let lengths = passed _ _ _ first.1 in
    let size = passed _ _ _ lengths.1 in
    let sum = passed _ _ _ size.1 in
    let end = passed _ _ _ sum.1 in
    let padding = passed _ _ _ end.1 in
    let made = same_ok _ _ (sym padding.1) in
    record {
      written = kind.0;
      whole = first.0;
      products = lengths.0;
      size = size.0;
      sum = leb-true _ _ sum.0;
      end = leb-true _ _ end.0;
      padding = leb-true _ _ padding.0;
      offset = ap (λ p. p.offset) made;
      bytes = ap (λ p. p.size) made;
      then = ap (λ p. p.laid) made;
    }

-- the size of a tensor that is placed is exact: as many blocks as its numbers make take it
pub placed-exact : (a : ℕ) (laid : Laid) (x : List ℕ) (k : ℕ) {o s : ℕ} {after : Laid} → place_of a laid x k ≡ Ok (record { offset = o; size = s; laid = after }) → s * (block_of k).numbers ≡ product_of x * (block_of k).bytes
placed-exact a laid x k e = let by = placed_by a laid x k e in rw by.bytes (size_exact x k by.whole)
