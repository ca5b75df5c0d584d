-- Where the two counts were accepted, there are rows for as many. Assumes nothing.
use Prim.Native.Nat.{ℕ, ◌≤◌}
use mathlib.Core.List.{List}
use lib.Dec.{leb}
use borrow.Author.Tests.{leb-true}
use Rattle.reading.specs.Back.{Sure}
use Rattle.reading.proofs.SureLaws.{sure_then, sure_done, sure_here, sure_check, whatever}
use Rattle.start.specs.Format.{counts, start}
use Rattle.start.specs.declared.Rooms.{Rooms}
use Rattle.start.specs.declared.Start.{Start}
use Rattle.values.specs.declared.Dialect.{Dialect}

-- there are rows for as many as were counted
abbrev pub Room : Rooms → Start → Type 0
Room rooms c = (c.entries ≤ rooms.entries) × (c.tensors ≤ rooms.tensors)

sure_counts : (rooms : Rooms) (k : Dialect) (s : List ℕ) (p : ℕ) → Sure s (counts rooms k) p (λ c q. Room rooms c)
unfolding counts
sure_counts rooms k s p =
    sure_here _ (sure_then whatever (λ n q u. sure_here _ (sure_then whatever (λ m r v.
    sure_check (leb n rooms.tensors) 6 p _ (λ e. sure_check (leb m rooms.entries) 6 q _ (λ f. sure_done (leb-true _ _ f, leb-true _ _ e)))))))

pub sure_start : (rooms : Rooms) (s : List ℕ) (p : ℕ) → Sure s (start rooms) p (λ c q. Room rooms c)
unfolding start
sure_start rooms s p = sure_then whatever (λ turned q u. sure_then whatever (λ k r v. sure_counts rooms k s r))
