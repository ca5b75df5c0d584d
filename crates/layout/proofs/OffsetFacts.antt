-- What a mapper relies on: the offsets of an accepted list are the least that keep the order, the
-- alignment and the space of each tensor. Assumes nothing.
use Rattle.std.specs.Prelude.{Result, Ok, Err}
use Prim.Native.Nat.{ℕ, zero, suc, ◌+◌, ◌%◌, ◌≤◌, ◌<◌}
use mathlib.Core.Path.{◌≡◌, refl, ap}
use mathlib.Core.List.{List, [], ◌∷◌, map}
use mathlib.Core.Bool.{Bool, true, ◌&&◌, false≢true, and-eq-true_iff}
use native.Mathlib.Omega.{arith}
use native.Mathlib.Nat.{zero-mod}
use borrow.Author.Tests.{eqb-true, eq-eqb, leb-true, le-leb}
use lib.Dec.{leb, eqb}
use lib.ListN.{length, get_or}
use Rattle.kinds.specs.Shape.{greatest}
use Rattle.layout.specs.Padding.{padded}
use Rattle.layout.specs.Layout.{place_of, Piece, Layout, laid_out_from, refused_at, ahead, followed_by, layout_from, layout_of}
use Rattle.layout.specs.Placement.{piece_size, may_start_after, Earliest}
use Rattle.layout.specs.declared.Laid.{Laid}
use Rattle.layout.specs.declared.Placed.{Placed}
use Rattle.layout.proofs.Padding.{padded-above, padded-multiple, padded-least}
use Rattle.layout.proofs.Places.{placed_by}

-- the offsets by the rule alone, with no test: the first is n
abbrev offsets_from : ℕ → ℕ → List Piece → List ℕ
offsets_from a n [] = []
offsets_from a n (p ∷ pieces) = n ∷ offsets_from a (padded a (n + piece_size p)) pieces

-- and where the last one ends, padded
abbrev end_from : ℕ → ℕ → List Piece → ℕ
end_from a n [] = n
end_from a n (p ∷ pieces) = end_from a (padded a (n + piece_size p)) pieces

-- an accepted list has those
record Ruled (a n : ℕ) (pieces : List Piece) (offsets : List ℕ) (after : Laid) : Type 0 where
  offsets_are : offsets ≡ offsets_from a n pieces
  end_is : after.next ≡ end_from a n pieces
  end_fits : n ≤ greatest → after.next ≤ greatest

-- an accepted list of at least one: its tensor was placed, and then the rest accepted
record Went (answer : Result Placed ℕ) (rest : Laid → Layout) (offsets : List ℕ) (after : Laid) : Type 0 where
  offset : ℕ
  size : ℕ
  laid : Laid
  others : List ℕ
  placed : answer ≡ Ok (record { offset = offset; size = size; laid = laid })
  goes_on : rest laid ≡ laid_out_from others after
  are : offsets ≡ offset ∷ others

went-by : (o s : ℕ) (l : Laid) (rest : Laid → Layout) (r : Layout) {offsets : List ℕ} {after : Laid} → rest l ≡ r → ahead o r ≡ laid_out_from offsets after
    → Went (Ok (record { offset = o; size = s; laid = l })) rest offsets after
went-by o s l rest (laid_out_from others last) {offsets} {after} is e =
    record { offset = o; size = s; laid = l; others = others; placed = refl; goes_on = cc; are = cc }
went-by o s l rest (refused_at why i) is e = let z : ◌≡◌ {A = ℕ} 0 1 = cc in absurd (omega arith)

went : (answer : Result Placed ℕ) (i : ℕ) (rest : Laid → Layout) {offsets : List ℕ} {after : Laid} → followed_by answer i rest ≡ laid_out_from offsets after
    → Went answer rest offsets after
went (Ok p) i rest e = went-by p.offset p.size p.laid rest (rest p.laid) refl e
went (Err why) i rest e = let z : ◌≡◌ {A = ℕ} 0 1 = cc in absurd (omega arith)

ruled : (a : ℕ) (laid : Laid) (i : ℕ) (pieces : List Piece) {offsets : List ℕ} {after : Laid} → layout_from a laid i pieces ≡ laid_out_from offsets after
    → Ruled a laid.next pieces offsets after
unfolding layout_from
ruled a laid i [] {offsets} {after} e =
    let same : after ≡ laid = cc in
    record { offsets_are = cc; end_is = cc; end_fits = λ h. rw same h }
ruled a laid i (p ∷ pieces) {offsets} {after} e =
    let w = went (place_of a laid p.lengths p.kind) i (λ l. layout_from a l (suc i) pieces) e in
    let by = placed_by a laid p.lengths p.kind w.placed in
    let rest = ruled a w.laid (suc i) pieces w.goes_on in
    let from : w.laid.next ≡ padded a (laid.next + piece_size p) = ap (λ l. l.next) by.then in
    record { offsets_are = cc; end_is = cc; end_fits = λ h. rest.end_fits (rw from by.padding) }

-- how many there are
offsets-number : (a n : ℕ) (pieces : List Piece) → length (offsets_from a n pieces) ≡ length pieces
offsets-number a n [] = refl
offsets-number a n (p ∷ pieces) = ap suc (offsets-number a (padded a (n + piece_size p)) pieces)

-- what it is for the first of a list to be placed, and then the others
record Starts (a n start : ℕ) (others : Bool) : Type 0 where
  multiple : start % a ≡ 0
  after : n ≤ start
  rest : others ≡ true

starts_by : (a n start : ℕ) (others : Bool) → (eqb (start % a) 0 && leb n start && others) ≡ true → Starts a n start others
starts_by a n start others e =
    let f = (and-eq-true_iff (eqb (start % a) 0 && leb n start) others).0 e in
    let g = (and-eq-true_iff (eqb (start % a) 0) (leb n start)).0 f.0 in
    record { multiple = eqb-true _ _ g.0; after = leb-true _ _ g.1; rest = f.1 }

module _ (a : ℕ) (pos : 0 < a) where
  multiple_from : (n : ℕ) (pieces : List Piece) → n % a ≡ 0 → (i : ℕ) → i < length pieces → get_or (offsets_from a n pieces) i 0 % a ≡ 0
  multiple_from n [] e i h = absurd (omega arith)
  multiple_from n (p ∷ pieces) e zero h = e
  multiple_from n (p ∷ pieces) e (suc i) h = multiple_from (padded a (n + piece_size p)) pieces (padded-multiple a pos (n + piece_size p)) i (omega arith)

  -- nothing stands before the first
  low_from : (n : ℕ) (pieces : List Piece) (i : ℕ) → i < length pieces → n ≤ get_or (offsets_from a n pieces) i 0
  low_from n [] i h = absurd (omega arith)
  low_from n (p ∷ pieces) zero h = omega arith
  low_from n (p ∷ pieces) (suc i) h =
      let up = padded-above a pos (n + piece_size p) in
      let rest = low_from (padded a (n + piece_size p)) pieces i (omega arith) in
      omega arith

  apart_from : (n : ℕ) (pieces : List Piece) (i j : ℕ) → i < j → j < length pieces
      → get_or (offsets_from a n pieces) i 0 + get_or (map piece_size pieces) i 0 ≤ get_or (offsets_from a n pieces) j 0
  apart_from n [] i j g h = absurd (omega arith)
  apart_from n (p ∷ pieces) i zero g h = absurd (omega arith)
  apart_from n (p ∷ pieces) zero (suc j) g h =
      let up = padded-above a pos (n + piece_size p) in
      let rest = low_from (padded a (n + piece_size p)) pieces j (omega arith) in
      omega arith
  apart_from n (p ∷ pieces) (suc i) (suc j) g h = apart_from (padded a (n + piece_size p)) pieces i j (omega arith) (omega arith)

  low_end : (n : ℕ) (pieces : List Piece) → n ≤ end_from a n pieces
  low_end n [] = omega arith
  low_end n (p ∷ pieces) =
      let up = padded-above a pos (n + piece_size p) in
      let rest = low_end (padded a (n + piece_size p)) pieces in
      omega arith

  inside_from : (n : ℕ) (pieces : List Piece) (i : ℕ) → i < length pieces → get_or (offsets_from a n pieces) i 0 + get_or (map piece_size pieces) i 0 ≤ end_from a n pieces
  inside_from n [] i h = absurd (omega arith)
  inside_from n (p ∷ pieces) zero h =
      let up = padded-above a pos (n + piece_size p) in
      let rest = low_end (padded a (n + piece_size p)) pieces in
      omega arith
  inside_from n (p ∷ pieces) (suc i) h = inside_from (padded a (n + piece_size p)) pieces i (omega arith)

  aligned-end : (n : ℕ) (pieces : List Piece) → n % a ≡ 0 → end_from a n pieces % a ≡ 0
  aligned-end n [] e = e
  aligned-end n (p ∷ pieces) e = aligned-end (padded a (n + piece_size p)) pieces (padded-multiple a pos (n + piece_size p))

  -- the offsets keep the rules
  placed_from : (low n : ℕ) (pieces : List Piece) → low ≤ n → n % a ≡ 0 → may_start_after a low (map piece_size pieces) (offsets_from a n pieces) ≡ true
  placed_from low n [] h e = refl
  placed_from low n (p ∷ pieces) h e =
      rw (eq-eqb (n % a) 0 e, le-leb low n h)
      (placed_from (n + piece_size p) (padded a (n + piece_size p)) pieces (padded-above a pos (n + piece_size p)) (padded-multiple a pos (n + piece_size p)))

  -- where n is the first place that any placement may take, the offsets from n on are the first of
  -- all: no placement is ahead of them at any tensor
  tight_from : (low n : ℕ) (pieces : List Piece) (starts : List ℕ) → ((x : ℕ) → x % a ≡ 0 → low ≤ x → n ≤ x)
      → may_start_after a low (map piece_size pieces) starts ≡ true → (i : ℕ) → get_or (offsets_from a n pieces) i 0 ≤ get_or starts i 0
  tight_from low n [] [] first may i = omega arith
  tight_from low n [] (s ∷ starts) first may i = absurd (false≢true may)
  tight_from low n (p ∷ pieces) [] first may i = absurd (false≢true may)
  tight_from low n (p ∷ pieces) (s ∷ starts) first may zero =
      let by = starts_by a low s (may_start_after a (s + piece_size p) (map piece_size pieces) starts) may in
      first s by.multiple by.after
  tight_from low n (p ∷ pieces) (s ∷ starts) first may (suc i) =
      let by = starts_by a low s (may_start_after a (s + piece_size p) (map piece_size pieces) starts) may in
      let ours : n ≤ s = first s by.multiple by.after in
      tight_from (s + piece_size p) (padded a (n + piece_size p)) pieces starts (λ x m h. padded-least a pos (n + piece_size p) x (omega arith) m) by.rest i

-- a list that was accepted at an alignment above 0
module _ (a : ℕ) (pos : 0 < a) (pieces : List Piece) {offsets : List ℕ} {laid : Laid} (accepted : layout_of a pieces ≡ laid_out_from offsets laid) where
  -- each tensor has one offset
  pub offsets_for_each : length offsets ≡ length pieces
  offsets_for_each = rw (ruled a _ 0 pieces accepted).offsets_are (offsets-number a 0 pieces)

  -- every offset is a multiple of the alignment
  pub offsets-aligned : (i : ℕ) → i < length pieces → get_or offsets i 0 % a ≡ 0
  offsets-aligned i h = rw (ruled a _ 0 pieces accepted).offsets_are (multiple_from a pos 0 pieces (zero-mod a) i h)

  -- tensors stand in order and do not overlap: each starts where those before it have ended
  pub offsets-apart : (i j : ℕ) → i < j → j < length pieces → get_or offsets i 0 + get_or (map piece_size pieces) i 0 ≤ get_or offsets j 0
  offsets-apart i j g h = rw (ruled a _ 0 pieces accepted).offsets_are (apart_from a pos 0 pieces i j g h)

  -- the area that is laid at the end holds every tensor
  pub offsets-inside : (i : ℕ) → i < length pieces → get_or offsets i 0 + get_or (map piece_size pieces) i 0 ≤ laid.next
  offsets-inside i h = rw ((ruled a _ 0 pieces accepted).offsets_are, (ruled a _ 0 pieces accepted).end_is) (inside_from a pos 0 pieces i h)

  -- its length is a multiple of the alignment too
  pub end-aligned : laid.next % a ≡ 0
  end-aligned = rw (ruled a _ 0 pieces accepted).end_is (aligned-end a pos 0 pieces (zero-mod a))

  -- and fits 64 bits
  pub end_fits : laid.next ≤ greatest
  end_fits = (ruled a _ 0 pieces accepted).end_fits (omega arith)

  -- so the offsets are a placement, and no placement starts any tensor earlier
  pub offsets-earliest : Earliest a (map piece_size pieces) offsets
  offsets-earliest = rw (ruled a _ 0 pieces accepted).offsets_are (record {
    placed = placed_from a pos 0 0 pieces (omega arith) (zero-mod a);
    least = λ starts may i. tight_from a pos 0 0 pieces starts (λ x m h. omega arith) may i;
  })
