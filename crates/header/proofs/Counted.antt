-- A header that was read has as many records as its counts say, and there were rows for them.
-- Assumes nothing.
use Prim.Native.Nat.{ℕ, ◌≤◌}
use mathlib.Core.Path.{◌≡◌}
use mathlib.Core.List.{List}
use lib.ListN.{length}
use Rattle.reading.specs.Back.{Sure}
use Rattle.reading.specs.Reading.{accepted}
use Rattle.reading.specs.declared.Limits.{Limits}
use Rattle.reading.proofs.SureLaws.{sure_then, sure_here, sure_each, sure_under, whatever}
use Rattle.header.specs.Answers.{reader_run}
use Rattle.header.specs.Format.{FullHeader, header}
use Rattle.header.proofs.Judged.{sure_judged}
use Rattle.start.specs.declared.Rooms.{Rooms}
use Rattle.start.proofs.RowsForCounts.{sure_start}

-- as many records as are counted, and rows for them
pub record Counted (rooms : Rooms) (w : FullHeader) : Type 0 where
  pub entries : length w.entries ≡ w.head.entries
  pub tensors : length w.tensors ≡ w.head.tensors
  pub entry_room : w.head.entries ≤ rooms.entries
  pub tensor_room : w.head.tensors ≤ rooms.tensors

sure_counted : (rooms : Rooms) (cap : ℕ) (s : List ℕ) (p : ℕ) → Sure s (header rooms cap) p (λ w q. Counted rooms w)
unfolding header
sure_counted rooms cap s p =
    sure_then (sure_start rooms s p) (λ c q room.
    sure_then (sure_each {P = λ z a. Unit {0}} _ _ (λ z r. whatever) c.entries tt q) (λ es r n.
    sure_then (sure_each {P = λ z a. Unit {0}} _ _ (λ z u. whatever) c.tensors 0 r) (λ ts e m.
    sure_here _ (sure_judged c es ts e (λ tested. record { entries = n.0; tensors = m.0; entry_room = room.0; tensor_room = room.1 })))))

-- with any ceilings, cap and tables
pub counted : (limits : Limits) (cap : ℕ) (es ts : List (List ℕ)) (s : List ℕ) {w : FullHeader} {q : ℕ} → accepted w q ≡ reader_run limits cap es ts s
    → Counted (record { entries = length es; tensors = length ts }) w
counted limits cap es ts s {w} {q} read = (sure_under limits (sure_counted (record { entries = length es; tensors = length ts }) cap s 0)).holds w q read
