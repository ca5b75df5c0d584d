-- The last tests of a header, as one step: whoever walks through a header's program takes them from
-- here, and does not see which they are. Assumes nothing.
use Prim.Native.Nat.{ℕ, ◌≤◌, ◌<◌}
use mathlib.Core.Path.{◌≡◌, sym, ap, subst}
use mathlib.Core.List.{List}
use mathlib.Core.Bool.{true}
use lib.Dec.{leb}
use borrow.Author.Tests.{leb-true, leb-false}
use Rattle.reading.specs.Back.{All, Sure}
use Rattle.reading.specs.Ceilings.{Low, under}
use Rattle.reading.specs.Each.{check_each, fold}
use Rattle.reading.specs.Reading.{accepted, run, seen, check}
use Rattle.reading.specs.Refusals.{Refuses}
use Rattle.reading.specs.declared.Limits.{Limits}
use Rattle.reading.proofs.CeilingLaws.{low_bind, low-checked, low-done}
use Rattle.reading.proofs.EachChecked.{sure_check-each, low-check-each, refuses_check-each}
use Rattle.reading.proofs.Onward.{all_so}
use Rattle.reading.proofs.RefusalLaws.{refuses_then, refuses_done, refuses_check}
use Rattle.reading.proofs.SureLaws.{sure_then, sure_done, sure_check}
use Rattle.reading.proofs.Views.{same-under}
use Rattle.kinds.specs.Shape.{greatest}
use Rattle.layout.specs.Padding.{padded}
use Rattle.values.specs.declared.Entry.{Entry}
use Rattle.tensors.specs.Format.{offset_place}
use Rattle.tensors.specs.declared.Tensor.{Tensor}
use Rattle.start.specs.declared.Start.{Start}
use Rattle.header.specs.Format.{latest, header_of, FullHeader, is_aligned, judged}

-- what was tested of a header that is accepted
pub record Tested (a : ℕ) (ts : List Tensor) (e : ℕ) : Type 0 where
  pub start : padded a e ≤ greatest
  pub aligned : All (λ (t : Tensor). is_aligned a t ≡ true) ts

-- the header of these records
abbrev pub header_with : Start → List Entry → List Tensor → ℕ → FullHeader
header_with c es ts e = record { head = header_of c (fold latest 32 es) e; entries = es; tensors = ts }

module _ (c : Start) (es : List Entry) (ts : List Tensor) (e : ℕ) where
  -- what is so of the header once all was tested is sure, and nothing was read
  pub sure_judged : {s : List ℕ} {p : ℕ} {Q : FullHeader → ℕ → Type 0} → (Tested (fold latest 32 es) ts e → Q (header_with c es ts e) p) → Sure s (judged c es ts e) p Q
  sure_judged {s} {p} {Q} so =
      sure_check (leb (padded (fold latest 32 es) e) greatest) 18 e _ (λ f. sure_then (sure_check-each (is_aligned (fold latest 32 es)) 16 offset_place ts) (λ u q h.
      sure_done (subst (Q (header_with c es ts e)) (sym h.0) (so (record { start = leb-true _ _ f; aligned = h.1 })))))

  -- they have no mark
  pub low-judged : (l : Limits) → Low l (judged c es ts e)
  low-judged l =
      low-checked l (leb (padded (fold latest 32 es) e) greatest) 18 e _ (λ f. low_bind l _ _ (low-check-each (is_aligned (fold latest 32 es)) 16 offset_place l ts) (λ u. low-done l _))

  -- they refuse as P says, if P holds of 18 where the data's start does not fit, and of 16 at every
  -- offset
  pub refuses_judged : {l : Limits} {s : List ℕ} {P : ℕ → ℕ → Type 0} → (greatest < padded (fold latest 32 es) e → P 18 e) → All (λ (t : Tensor). P 16 (offset_place t)) ts → Refuses l s P (judged c es ts e)
  refuses_judged {P = P} overflowing misaligned =
      refuses_then (refuses_check (leb (padded (fold latest 32 es) e) greatest) 18 e (λ f. overflowing (leb-false _ _ f))) (λ u.
      refuses_then (refuses_check-each (is_aligned (fold latest 32 es)) 16 offset_place ts (all_so (λ t h f. h) ts misaligned)) (λ v. refuses_done))

-- of two starts they show the same, where a view of the headers does
pub seen-judged : {C : Type 0} (view : FullHeader → C) (c c' : Start) (es : List Entry) (ts : List Tensor) (e : ℕ) → view (header_with c es ts e) ≡ view (header_with c' es ts e)
    → (l : Limits) (s : List ℕ) (p : ℕ) → seen view (run (under l (judged c es ts e)) s p) ≡ seen view (run (under l (judged c' es ts e)) s p)
unfolding under run seen
seen-judged view c c' es ts e same l s p =
    same-under view (check (leb (padded (fold latest 32 es) e) greatest) 18 e) s p l _ _ (λ u q. same-under view (check_each (is_aligned (fold latest 32 es)) 16 offset_place ts) s q l _ _ (λ v r. ap (λ w. accepted w r) same))
