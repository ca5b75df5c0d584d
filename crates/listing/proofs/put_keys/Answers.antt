-- `listing::put_keys` meets its contract. The invariant: what is put, with the lines of the keys
-- that are left, is the whole text. Assumes nothing.
use Prim.Native.Nat.{◌+◌, ◌-◌}
use mathlib.Core.Path.{◌≡◌, sym}
use native.Mathlib.Omega.{arith}
use native.Mathlib.Nat.{sub-zero}
use lib.ListN.{length}
use Rattle.key_order.specs.Order.{ordered}
use Rattle.listing.specs.Text.{key_line}
use Rattle.key_order.proofs.SearchTurns.{next-inside, ordered-turn, ordered-ends, ordered-none}
use Rattle.text_out.proofs.Writing.{writing_starts, writing_turns, writing_ends, one_line, no_lines}
use Rattle.listing.proofs.put_keys.Goals as goal

pub loop-init : goal.loop-init
unfolding ordered
loop-init c = rw (sub-zero (length c.args.entries.now)) (writing_starts _ _)

pub returns-in_default : goal.returns-in_default
returns-in_default c =
    let l = c.loop in
    let a = c.args in
    writing_ends l.invariant (no_lines (key_line a.s.now) (ordered-ends a.s.now a.entries.now l.last (length a.entries.now - l.counter) (sym c.in_default.ensures)))

pub offset_bounds-entries-i : goal.offset_bounds-entries-i
offset_bounds-entries-i c = let a = c.args in omega (arith, next-inside a.s.now a.entries.now c.loop.last (sym c.in-Some.ensures))

pub bounds-entries-i : goal.bounds-entries-i
bounds-entries-i c = let a = c.args in next-inside a.s.now a.entries.now c.loop.last (sym c.in-Some.ensures)

pub loop-preserved : goal.loop-preserved
loop-preserved c =
    let l = c.loop in
    let a = c.args in
    let less : length a.entries.now - l.counter - 1 ≡ length a.entries.now - (l.counter + 1) = omega arith in
    let e = rw less at (ordered-turn a.s.now a.entries.now l.last (length a.entries.now - l.counter) (omega arith) (sym c.in-Some.ensures)) in
    writing_turns l.invariant (one_line (key_line a.s.now) e) c.put_key-n.ensures

pub returns : goal.returns
returns c =
    let l = c.loop in
    let a = c.args in
    writing_ends l.invariant (no_lines (key_line a.s.now) (ordered-none a.s.now a.entries.now l.last (length a.entries.now - l.counter) (omega arith)))
