-- `fetches::swept` meets its contract: the invariant is where the sweep stands, and that a byte is
-- still missing; the measure is that of its steps. Assumes nothing.
use Prim.Native.Nat.{◌+◌, ◌*◌}
use mathlib.Core.Path.{◌≡◌, sym, ap, ◌∙◌}
use native.Mathlib.Omega.{arith}
use Rattle.reading.specs.Back.{got}
use Rattle.fetches.specs.Trace.{fetch_end, fetches}
use Rattle.fetches.specs.Sweep.{nth, Swept}
use Rattle.fetches.proofs.Records.{Good, whole, fetched}
use Rattle.fetches.proofs.Sweeps.{begins, at_the_end, not-at-all}
use Rattle.fetches.proofs.swept.Goals.{After-step-w, In-loop-w}
use Rattle.fetches.proofs.swept.Goals as goal

-- the record that a turn reads
there : (c : In-loop-w) → Good c.args.trace.now (1 + 20 * c.loop-w.w.next)
there c = (whole _ c.requires.0).good c.loop-w.w.next (omega arith)

stepped : (c : After-step-w) → Swept (got (fetches c.args.trace.now)) c.args.lo c.args.end c.step-w.result
stepped c =
    let read_here : (nth (got (fetches c.args.trace.now)) c.loop-w.w.next ≡ c.fetch_in-f.result) = fetched _ c.requires.0 c.loop-w.w.next (omega arith) ∙ sym c.fetch_in-f.ensures in
    let inv = c.loop-w.invariant in
    c.step-w.ensures.keeps _ _ inv.2 inv.1 (ap (λ f. f.offset) (read_here)) (ap fetch_end (read_here))

pub loop-w-init : goal.loop-w-init
loop-w-init c =
    let a = c.args in
    let all = whole a.trace.now c.requires.0 in
    (omega (arith, all.long), omega arith, begins _ a.lo a.end c.requires.1)

pub fetch_in-f-requires : goal.fetch_in-f-requires
fetch_in-f-requires c = omega (arith, (there (goal.at.fetch_in-f-requires c).In-loop-w).inside)

pub overflow_add-f : goal.overflow_add-f
overflow_add-f c = omega (arith, (there (goal.at.overflow_add-f c).In-loop-w).fits, ap fetch_end c.fetch_in-f.ensures)

pub returns-then-end-w : goal.returns-then-end-w
returns-then-end-w c file inside = at_the_end file _ _ _ inside _ (stepped (goal.at.returns-then-end-w c).After-step-w) (omega arith) c.if-end-w.true

pub loop-w-preserved : goal.loop-w-preserved
loop-w-preserved c = (c.loop-w.invariant.0, c.if-end-w.false, stepped (goal.at.loop-w-preserved c).After-step-w)

pub returns : goal.returns
returns c file inside =
    not-at-all file _ _ _ inside _ c.loop-w.invariant.2 c.loop-w.invariant.1 (omega arith)
