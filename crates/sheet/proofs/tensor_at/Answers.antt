-- `sheet::tensor_at` meets its contract: a bad opening is no tensor. Assumes nothing.
use mathlib.Core.Path.{refl, ◌∙◌}
use Rattle.sheet.specs.Format.{tensor_body, tensor}
use Rattle.sheet.proofs.Frames.{unopened}
use Rattle.sheet.proofs.tensor_at.Goals as goal

pub returns-in_err-from : goal.returns-in_err-from
unfolding tensor
returns-in_err-from c =
    let r = unopened c.args.s.now 2 c.args.at (λ e. tensor_body) c.in_err-from.ensures in
    c.from_residual.ensures ∙ rw (← r.is) refl
