-- The proof of the cycle of calls {array_room, arrays_room}. Items that are no arrays keep their
-- bytes, but for the sizes of texts, so that places and a count tell how long they are; arrays are
-- taken one after the other. Assumes nothing.
use borrow.Author.Tests.{eq-eqb, ne_eqb}
use Prim.Native.Nat.{ℕ, suc, ◌+◌, ◌-◌, ◌*◌, ◌≤◌}
use mathlib.Core.Path.{◌≡◌, sym, ap, ◌∙◌}
use mathlib.Core.List.{List}
use native.Mathlib.Omega.{arith}
use native.Mathlib.Nat.{mul_comm, mul-le-mul_right}
use lib.ListN.{length}
use Rattle.reading.specs.Back.{bytes_of_all}
use Rattle.reading.specs.Reading.{Answer, run}
use Rattle.reading.proofs.Repetition.{times-accepted}
use Rattle.reading.proofs.RunLaws.{not_there}
use Rattle.values.specs.Contents.{ValueContent, Content, value_bytes}
use Rattle.sheet.specs.Format.{array, item}
use Rattle.sheet.proofs.BackFromAnswers.{step_no, step_yes, step_there, next-there}
use Rattle.sheet.proofs.SheetArrays.{array_deep}
use Rattle.plan.specs.Steps.{taken_from}
use Rattle.plan.proofs.Rooms.{taken_twice, taken_thrice, room-turn, room-end}
use Rattle.plan.proofs.PartLengths.{size_cases, rows_more, rows_none}
use Rattle.plan.proofs.ArraysSaid.{no_type, no_count, of_arrays, of_plain}
use Rattle.plan.proofs.ValueLengths.{wider, array_measure, heard_one}
use Rattle.plan.proofs.+arrays.Invariants.{arrays_length}
use Rattle.plan.proofs.+arrays.Goals.{array_room-then-t-eq8, array_room-else-t-eq8}
use Rattle.plan.proofs.+arrays.Goals as goal

-- an array
abbrev one : (d : ℕ) → List ℕ → ℕ → Answer (ValueContent (Content d))
one d s p = run (array d (item d)) s p

-- An array.
pub array_room-returns-in_default : goal.array_room-returns-in_default
array_room-returns-in_default t c =
    let there = step_there (one c.args.depth c.args.s.now c.args.at) c.requires in
    absurd (no_type c.args.depth _ _ there c.in_default.ensures)

pub array_room-returns-in_default-number_at : goal.array_room-returns-in_default-number_at
array_room-returns-in_default-number_at t c =
    let there = step_there (one c.args.depth c.args.s.now c.args.at) c.requires in
    absurd (no_count c.args.depth _ _ there c.in-Ok.ensures c.in_default-number_at.ensures)

pub array_room-overflow_sub-depth : goal.array_room-overflow_sub-depth
array_room-overflow_sub-depth t c =
    omega (arith, array_deep c.args.s.now c.args.at c.args.depth (step_there (one c.args.depth c.args.s.now c.args.at) c.requires))

pub array_room-arrays_room-requires : goal.array_room-arrays_room-requires
array_room-arrays_room-requires t c =
    let there = step_there (one c.args.depth c.args.s.now c.args.at) c.requires in
    let deep = array_deep c.args.s.now c.args.at c.args.depth there in
    (omega (arith, deep), (of_arrays c.args.depth _ _ there c.in-Ok.ensures c.args.dialect c.in-Ok-number_at.ensures c.if-t-eq9.true).there)

pub array_room-returns-then-t-eq9 : goal.array_room-returns-then-t-eq9
array_room-returns-then-t-eq9 t c =
    let there = step_there (one c.args.depth c.args.s.now c.args.at) c.requires in
    let nested = of_arrays c.args.depth _ _ there c.in-Ok.ensures c.args.dialect c.in-Ok-number_at.ensures c.if-t-eq9.true in
    rw (c.arrays_room.ensures, c.take_from-begun.ensures, c.size_width-width.ensures)
    (taken_twice _ _ _ ∙ ap (taken_from c.args.room) (omega (arith, nested.size)))

pub array_room-overflow_mul-wider : goal.array_room-overflow_mul-wider
array_room-overflow_mul-wider t c =
    let there = step_there (one c.args.depth c.args.s.now c.args.at) c.requires in
    let measured = array_measure _ c.args.depth c.args.dialect _ c.requires (of_plain c.args.depth _ _ there c.in-Ok.ensures c.args.dialect c.in-Ok-number_at.ensures c.if-t-eq9.false) in
    let n = c.in-Ok-number_at.n in
    let most = (size_cases c.args.dialect).1 in
    let h : (c.size_width-width.result - 4) * n ≤ 4 * n = mul-le-mul_right n (omega (arith, c.size_width-width.ensures, most)) in
    record { fits = omega (arith, h, measured.few c.if-t-eq8.true, c.well_formed) }

pub array_room-overflow_sub-end : goal.array_room-overflow_sub-end
array_room-overflow_sub-end t c =
    let there = step_there (one c.args.depth c.args.s.now c.args.at) c.requires in
    (array_measure _ c.args.depth c.args.dialect _ c.requires (of_plain c.args.depth _ _ there c.in-Ok.ensures c.args.dialect c.in-Ok-number_at.ensures c.if-t-eq9.false)).ends

pub array_room-returns : goal.array_room-returns
array_room-returns t c =
    let there = step_there (one c.args.depth c.args.s.now c.args.at) c.requires in
    let measured = array_measure _ c.args.depth c.args.dialect _ c.requires (of_plain c.args.depth _ _ there c.in-Ok.ensures c.args.dialect c.in-Ok-number_at.ensures c.if-t-eq9.false) in
    let n = c.in-Ok-number_at.n in
    let widened : c.if-t-eq8.wider ≡ n * wider c.args.dialect c.in-Ok.t =
    elim c.if-t-eq8.branch [
      | array_room-then-t-eq8 w ↦ rw (w.wider-is, eq-eqb _ 8 w.if-t-eq8.true) (ap (λ x. (x - 4) * n) c.size_width-width.ensures ∙ mul_comm _ _)
      | array_room-else-t-eq8 w ↦ rw (w.wider-is, ne_eqb _ 8 w.if-t-eq8.false) (omega arith)
    ]
    in
    rw (c.take_from-2.ensures, c.take_from.ensures, c.take_from-begun.ensures, c.size_width-width.ensures, widened)
    (taken_thrice _ _ _ _ ∙ ap (taken_from c.args.room) measured.whole)

-- Arrays. The one that comes next is there
pub arrays_room-returns-in_default : goal.arrays_room-returns-in_default
arrays_room-returns-in_default t c =
    let l = c.loop in
    let a = c.args in
    let r = step_no (one a.depth a.s.now l.from) c.in_default.ensures in
    absurd (not_there (sym r.is) (next-there _ a.s.now l.from a.n l.counter c.loop-test.true l.invariant.0))

pub arrays_room-loop-preserved : goal.arrays_room-loop-preserved
arrays_room-loop-preserved t c =
    let l = c.loop in
    let a = c.args in
    let y = step_yes (one a.depth a.s.now l.from) c.in-Some.ensures in
    let below = c.loop-test.true in
    let q = c.in-Some.next in
    let taken : c.array_room-left.result ≡ taken_from l.left (length (value_bytes (suc a.depth) a.dialect y.what)) =
    c.array_room-left.ensures ∙ ap (λ x. taken_from l.left (length (value_bytes (suc a.depth) a.dialect x))) (heard_one y.is)
    in (
      times-accepted _ a.s.now l.from a.n l.counter below y.is l.invariant.0,
      l.invariant.1 ∙ room-turn (λ x. length (bytes_of_all (value_bytes (suc a.depth) a.dialect) x)) _ a.s.now l.from a.n l.counter l.left below l.invariant.0 y.is _ (rows_more (value_bytes (suc a.depth) a.dialect) y.what)
          ∙ ap (λ r. taken_from r (arrays_length a.depth a.dialect (a.n - (l.counter + 1)) a.s.now q)) (sym taken),
    )

pub arrays_room-returns : goal.arrays_room-returns
arrays_room-returns t c =
    let l = c.loop in
    let a = c.args in
    let enc = value_bytes (suc a.depth) a.dialect in
    sym (l.invariant.1 ∙ room-end (λ x. length (bytes_of_all enc x)) _ _ l.from _ l.counter l.left (rows_none enc) (omega arith))
