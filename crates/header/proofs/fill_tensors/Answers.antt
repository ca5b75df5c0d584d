-- `header::fill_tensors` meets its contract. The invariant: the rows before the next are written, and
-- the tensors that are left, all there after some total, give the rest. Assumes nothing.
use Prim.Native.Nat.{ℕ, ◌+◌, ◌≤◌, ◌<◌}
use mathlib.Core.Path.{◌≡◌, sym, ap, ◌∙◌}
use mathlib.Core.List.{List, ◌++◌}
use mathlib.Core.Bool.{Bool, true}
use native.Mathlib.Omega.{arith}
use lib.ListN.{length-set, drop}
use Rattle.reading.specs.Reading.{accepted, run, is_accepted}
use Rattle.reading.proofs.Repetition.{each-accepted, each-filled, each_last}
use Rattle.tensors.specs.Format.{tensor, total_of}
use Rattle.tensors.specs.Rows.{tensor_row}
use Rattle.values.specs.declared.Dialect.{Dialect}
use Rattle.values.specs.Format.{text}
use Rattle.tensors.specs.Steps.{in_order_of, after_name}
use Rattle.tensors.proofs.ReadAgain.{Found, order-text, name-ends, next-name, next-rest, found-again}
use Rattle.header.proofs.KeptRows.{front}
use Rattle.header.proofs.fill_tensors.Goals.{In-loop-row, Joined-dialect, Joined-dialect-2, else-dialect, else-dialect-2, then-dialect, then-dialect-2}
use Rattle.header.proofs.fill_tensors.Goals as goal

-- a text in a dialect is one in its version and its order
in_order : (d : Dialect) {big : Bool} (s : List ℕ) (p : ℕ) → d.big ≡ big → run (text (in_order_of d.version big)) s p ≡ run (text d) s p
in_order d s p e = ap (λ big. run (text (in_order_of d.version big)) s p) (sym e) ∙ ap (λ m. run m s p) (sym (order-text d))

-- the name of the next tensor is there
name-there : (c : In-loop-row) →
    let a = c.args in
    is_accepted (run (text a.dialect) a.s.now c.loop-row.from) ≡ true
name-there c =
    let v = c.loop-row in
    let below : v.row-index < c.args.n = omega arith in
    next-name _ _ _ _ _ v.invariant.total below v.invariant.all

-- it was read, in either order
named : (c : Joined-dialect) →
    let a = c.args in
    let r = c.if-dialect.name in
    accepted r (r.place + r.len) ≡ run (text a.dialect) a.s.now c.loop-row.from
named c =
    let a = c.args in
    elim c.if-dialect.branch [ then-dialect w ↦ rw w.name-is (w.known_name-name.ensures ∙ in_order a.dialect _ _ w.if-dialect.true) | else-dialect w ↦ rw w.name-is (w.known_name-name-else-dialect.ensures ∙ in_order a.dialect _ _ w.if-dialect.false) ]

-- what follows the name is there
rest-there : (c : Joined-dialect) →
    let a = c.args in
    let r = c.if-dialect.name in
    is_accepted (run (after_name a.dialect.big) a.s.now (r.place + r.len)) ≡ true
rest-there c =
    let v = c.loop-row in
    let below : v.row-index < c.args.n = omega arith in
    next-rest _ _ _ _ _ v.invariant.total below v.invariant.all (named c)

-- the tensor that was read, in either order
found : (c : Joined-dialect-2) →
    let a = c.args in
    let v = c.loop-row in
    let r = c.if-dialect.name in
    accepted r (r.place + r.len) ≡ run (text a.dialect) a.s.now v.from → Found a.dialect a.s.now v.from v.invariant.total r c.if-dialect-2.found
found c e =
    let v = c.loop-row in
    let below : v.row-index < c.args.n = omega arith in
    found-again _ _ _ _ _ v.invariant.total below v.invariant.all e
    (elim c.if-dialect-2.branch [ then-dialect-2 w ↦ rw (w.found-is, w.if-dialect-2.true) w.known_after_name-found.ensures | else-dialect-2 w ↦ rw (w.found-is, w.if-dialect-2.false) w.known_after_name-found-else-dialect-2.ensures ])

pub known_name-name-requires : goal.known_name-name-requires
known_name-name-requires c = let a = c.args in ap is_accepted (in_order a.dialect _ _ c.if-dialect.true) ∙ name-there (goal.at.known_name-name-requires c).In-loop-row

pub known_name-name-requires-else-dialect : goal.known_name-name-requires-else-dialect
known_name-name-requires-else-dialect c = let a = c.args in ap is_accepted (in_order a.dialect _ _ c.if-dialect.false) ∙ name-there (goal.at.known_name-name-requires-else-dialect c).In-loop-row

pub overflow_add-p : goal.overflow_add-p
overflow_add-p c = omega (arith, name-ends _ _ _ (named (goal.at.overflow_add-p c).Joined-dialect))

pub known_after_name-found-requires : goal.known_after_name-found-requires
known_after_name-found-requires c = rw c.if-dialect-2.true at (rest-there (goal.at.known_after_name-found-requires c).Joined-dialect)

pub known_after_name-found-requires-else-dialect-2 : goal.known_after_name-found-requires-else-dialect-2
known_after_name-found-requires-else-dialect-2 c = rw c.if-dialect-2.false at (rest-there (goal.at.known_after_name-found-requires-else-dialect-2 c).Joined-dialect)

pub known_row-requires-clause-shape_value : goal.known_row-requires-clause-shape_value
known_row-requires-clause-shape_value c = let g = goal.at.known_row-requires-clause-shape_value c in (found g.Joined-dialect-2 (named g.Joined-dialect)).products

pub known_row-requires-clause-kind_value : goal.known_row-requires-clause-kind_value
known_row-requires-clause-kind_value c = let g = goal.at.known_row-requires-clause-kind_value c in (found g.Joined-dialect-2 (named g.Joined-dialect)).size

pub loop-row-preserved : goal.loop-row-preserved
loop-row-preserved c =
    let a = c.args in
    let v = c.loop-row in
    let below : v.row-index < a.n = omega arith in
    let g = goal.at.loop-row-preserved c in
    let e = (found g.Joined-dialect-2 (named g.Joined-dialect)).read in
    record {
      long = simp length-set v.invariant.long;
      total = _;
      all = each-accepted (tensor a.dialect) total_of _ _ _ _ v.invariant.total below e v.invariant.all;
      left = rw c.known_row.ensures (v.invariant.left ∙ each-filled (tensor a.dialect) total_of _ _ _ _ v.invariant.total below e v.invariant.all tensor_row _ (omega arith));
    }

pub returns : goal.returns
returns c =
    let a = c.args in
    let v = c.loop-row in
    let past : a.n ≤ v.row-index = omega arith in
    sym (ap (λ x. x ++ drop a.n a.rows.now) (v.invariant.left ∙ each_last (tensor a.dialect) total_of _ _ _ _ v.invariant.total tensor_row v.row-items past))
    ∙ front tensor_row (tensor a.dialect) total_of a.n 0 a.s.now a.at a.rows.now
