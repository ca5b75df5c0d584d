-- The form of a start that was accepted is one that a file can have. Assumes nothing.
use Prim.Native.Nat.{ℕ}
use mathlib.Core.Path.{◌≡◌, ap, ◌∙◌}
use mathlib.Core.Bool.{Bool, true}
use mathlib.Core.List.{List}
use Rattle.reading.specs.Back.{Sure}
use Rattle.reading.specs.Reading.{a_version}
use Rattle.reading.proofs.SureLaws.{sure_then, sure_done, sure_here, sure_mark, sure_check, sure_so, whatever}
use Rattle.start.specs.Format.{known_dialect, dialect_by, version, start}
use Rattle.start.specs.declared.Rooms.{Rooms}
use Rattle.start.proofs.StartEnds.{counts_end}

module _ (s : List ℕ) where
  version-known : (turned : Bool) (p : ℕ) → Sure s (version turned) p (λ k q. known_dialect k ≡ true)
  unfolding version
  version-known turned p =
      sure_here _ (sure_then whatever (λ v q u. sure_check (known_dialect (dialect_by turned v)) 4 p _ (λ e. sure_mark a_version (dialect_by turned v).version p _ (sure_done e))))

  pub start-known : (rooms : Rooms) → Sure s (start rooms) 0 (λ c q. known_dialect c.dialect ≡ true)
  unfolding start
  start-known rooms = sure_then whatever (λ turned q u. sure_then (version-known turned q) (λ k r e. sure_so (counts_end s rooms k r) (λ c o h. ap known_dialect h.0 ∙ e)))
