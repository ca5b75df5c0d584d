-- The refusals of a whole header: those of its parts and of its offsets; 6 where there are too few
-- rows, and 18 where the data's start does not fit. Assumes nothing.
use Prim.Native.Nat.{ℕ, ◌≤◌, ◌<◌}
use mathlib.Core.Path.{◌≡◌, refl, sym, ap, ◌∙◌}
use mathlib.Core.List.{List, [], ◌∷◌}
use mathlib.Core.Bool.{true, false}
use native.Mathlib.Omega.{arith}
use lib.ListN.{length}
use Rattle.reading.specs.Each.{times, fold}
use Rattle.reading.specs.Reading.{accepted, run}
use Rattle.reading.specs.Refusals.{is_one_of, Refuses}
use Rattle.reading.specs.declared.Limits.{Limits}
use Rattle.reading.proofs.Onward.{all_so}
use Rattle.reading.proofs.RefusalLaws.{refuses_after, refuses_then, refuses_here, refuses_so, listed_too}
use Rattle.reading.proofs.SureLaws.{sure_run, sure_under, whatever}
use Rattle.kinds.specs.Shape.{greatest}
use Rattle.layout.specs.Padding.{padded}
use Rattle.values.specs.Format.{entry}
use Rattle.values.specs.declared.Dialect.{Dialect}
use Rattle.values.specs.declared.Entry.{Entry}
use Rattle.values.proofs.ValueRefusals.{entry_refusals, refuses_entries}
use Rattle.tensors.specs.Format.{offset_place}
use Rattle.tensors.proofs.TensorRefusals.{tensor_refusals, refuses_tensors}
use Rattle.tensors.proofs.TensorsEnd.{tensors-end}
use Rattle.start.specs.declared.Rooms.{Rooms}
use Rattle.start.proofs.StartRefusals.{version_refusals, Lacking, refuses_start}
use Rattle.header.specs.Format.{latest, header}
use Rattle.header.proofs.Judged.{refuses_judged}

-- those of a header's parts and of its offsets: all but 6, which asks for rows, and 18, which asks
-- for a data's start that does not fit
abbrev pub part_refusals : List ℕ
part_refusals = 1 ∷ 2 ∷ 3 ∷ 4 ∷ 5 ∷ 7 ∷ 8 ∷ 9 ∷ 10 ∷ 11 ∷ 12 ∷ 13 ∷ 14 ∷ 15 ∷ 16 ∷ 17 ∷ []

-- a number that is not one of them differs from each that is
pub not_listed : (x n : ℕ) → is_one_of x part_refusals ≡ false → is_one_of n part_refusals ≡ true → n ≡ x → ⊥
not_listed x n other h e =
    let f : true ≡ false = sym h ∙ ap (λ m. is_one_of m part_refusals) e ∙ other in
    let z : ◌≡◌ {A = ℕ} 0 1 = cc in
    omega arith

-- refusal 18 is as P says wherever the data's start, past entries that were read and at an end
-- within the bytes, does not fit
abbrev pub Overflowing : List ℕ → (ℕ → ℕ → Type 0) → ℕ → Type 0
Overflowing s P cap =
    (k : Dialect) (n p : ℕ) (es : List Entry) (q e : ℕ) → accepted es q ≡ run (times n (entry k cap)) s p → e ≤ length s → greatest < padded (fold latest 32 es) e → P 18 e

-- a header refuses as P says, if P holds of its parts' refusals within the bytes, of 6 where rows
-- lack, and of 18 where the data's start does not fit
pub refuses_header : {l : Limits} {s : List ℕ} {P : ℕ → ℕ → Type 0} (rooms : Rooms) (cap : ℕ) → ((n q : ℕ) → is_one_of n part_refusals ≡ true → q ≤ length s → P n q)
    → Lacking s P rooms → Overflowing s P cap → Refuses l s P (header rooms cap)
unfolding header
refuses_header {l} {s} {P} rooms cap given lacking overflowing =
    refuses_then (refuses_start (λ n q h low. given n q (listed_too n version_refusals part_refusals refl h) low) rooms lacking) (λ c.
    refuses_after (refuses_so (refuses_entries c.dialect cap c.entries) (λ n q h. given n q (listed_too n entry_refusals part_refusals refl h.listed) h.inside)) (λ es p q read near.
    refuses_after (refuses_so (refuses_tensors c.dialect c.tensors) (λ n o h. given n o (listed_too n tensor_refusals part_refusals refl h.listed) h.inside)) (λ ts o r listed within.
    refuses_here _ (λ e low.
    refuses_judged c es ts e (overflowing c.dialect c.entries p es q e ((sure_under l (sure_run whatever)).holds es q read).1 low)
    (all_so (λ t h. given 16 (offset_place t) refl (omega (arith, h))) ts ((sure_under l (tensors-end c.dialect s c.tensors 0 o)).holds ts r listed))))))
