-- The running total of the tensors' parameters: with a tensor that was accepted it still fits.
-- Assumes nothing.
use Prim.Native.Nat.{ℕ, ◌+◌, ◌≤◌}
use mathlib.Core.Path.{◌≡◌}
use mathlib.Core.List.{List}
use Rattle.reading.specs.Back.{Sure}
use Rattle.reading.specs.Ceilings.{under}
use Rattle.reading.specs.Reading.{accepted, run}
use Rattle.reading.specs.declared.Limits.{Limits}
use Rattle.reading.proofs.SureLaws.{sure_then, sure_here, sure_under, whatever}
use Rattle.kinds.specs.Shape.{greatest}
use Rattle.tensors.specs.Format.{tensor, total_of}
use Rattle.values.specs.declared.Dialect.{Dialect}
use Rattle.tensors.specs.declared.Tensor.{Tensor}
use Rattle.tensors.proofs.Fitting.{sure_fitting}

sure_total : (k : Dialect) (total : ℕ) (s : List ℕ) (p : ℕ) → Sure s (tensor k total) p (λ t q. total_of total t ≤ greatest)
unfolding tensor
sure_total k total s p =
    sure_here _ (sure_then whatever (λ name q u. sure_then whatever (λ x r v. sure_then whatever (λ y t w. sure_fitting p total name x y (λ tested. tested.total)))))

pub total-fits : (l : Limits) (k : Dialect) (total : ℕ) (s : List ℕ) (p : ℕ) {t : Tensor} {q : ℕ} → accepted t q ≡ run (under l (tensor k total)) s p → total + t.parameters ≤ greatest
total-fits l k total s p {t} {q} e = (sure_under l (sure_total k total s p)).holds t q e
