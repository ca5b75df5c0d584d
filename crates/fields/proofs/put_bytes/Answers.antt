-- `fields::put_bytes` meets its contract. The invariant: what is left to do from here gives what
-- the contract says (`rest`). Assumes nothing.
use mathlib.Core.Path.{◌≡◌, sym, ap, ◌∙◌}
use Prim.Native.Nat.{◌-◌, ◌/◌, ◌%◌}
use native.Mathlib.Omega.{arith}
use lib.ListN.{set}
use Rattle.fields.proofs.Bytes.{length_bytes_of, spot, spot-big, spot-little, rest, rest-start, rest-turn, rest_end}
use Rattle.fields.proofs.put_bytes.Goals.{Joined-big, else-big, then-big}
use Rattle.fields.proofs.put_bytes.Goals as goal

-- where the byte is stored
stored_at : (c : Joined-big) → c.if-big.to ≡ spot c.args.big c.args.w (c.loop-i.i - 1)
stored_at c = elim c.if-big.branch [
  | then-big w ↦ w.to-is ∙ spot-big c.args.w (c.loop-i.i - 1) w.if-big.true
  | else-big w ↦ w.to-is ∙ spot-little c.args.w (c.loop-i.i - 1) w.if-big.false
]

pub loop-i-init : goal.loop-i-init
loop-i-init c = rest-start _ _ _ _

pub loop-i-preserved : goal.loop-i-preserved
loop-i-preserved c =
    let l = c.loop-i in
    let a = c.args in
    ap (λ i. rest a.big a.w (l.i - 1) (l.rest / 256) (set l.out i (l.rest % 256))) (stored_at (goal.at.loop-i-preserved c).Joined-big)
    ∙ rest-turn a.big a.w l.i l.rest l.out (omega arith) (omega arith) (omega arith)
    ∙ l.invariant

pub returns-clause-wrote : goal.returns-clause-wrote
returns-clause-wrote c =
    let l = c.loop-i in
    let a = c.args in
    let e : l.i ≡ 0 = omega arith in
    let k = length_bytes_of a.big a.w a.v in
    record { count = sym k; bytes = rw k (sym (rest_end a.big a.w l.rest l.out) ∙ ap (λ n. rest a.big a.w n l.rest l.out) (sym e) ∙ l.invariant) }
