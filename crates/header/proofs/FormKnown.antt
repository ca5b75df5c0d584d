-- The form of a header that was accepted is one that a file can have, so that its byte order is one
-- of three: it was tested where the version was read. Assumes nothing.
use Prim.Native.Nat.{ℕ}
use mathlib.Core.Path.{◌≡◌, subst, sym}
use mathlib.Core.Bool.{true}
use mathlib.Core.List.{List}
use lib.ListN.{length}
use Rattle.reading.specs.Back.{Sure}
use Rattle.reading.specs.Reading.{accepted}
use Rattle.reading.specs.declared.Limits.{Limits}
use Rattle.reading.proofs.Repetition.{seen-accepted}
use Rattle.reading.proofs.SureLaws.{sure_then, sure_here, sure_under, whatever}
use Rattle.start.specs.Format.{known_dialect}
use Rattle.start.specs.declared.Rooms.{Rooms}
use Rattle.start.proofs.FormKnown.{start-known}
use Rattle.header.specs.declared.Header.{Header}
use Rattle.header.specs.Answers.{reader_outcome}
use Rattle.header.specs.Contents.{dialect_in, dialect_of}
use Rattle.header.specs.Format.{header}
use Rattle.header.proofs.Judged.{sure_judged}

header-known : (rooms : Rooms) (cap : ℕ) (s : List ℕ) → Sure s (header rooms cap) 0 (λ w q. known_dialect (dialect_of w) ≡ true)
unfolding header
header-known rooms cap s =
    sure_then (start-known s rooms) (λ c p known. sure_then whatever (λ es q u. sure_then whatever (λ ts e v. sure_here _ (sure_judged c es ts e (λ tested. known)))))

-- with any ceilings, cap and tables
pub form_known : (limits : Limits) (cap : ℕ) (es ts : List (List ℕ)) (s : List ℕ) {h : Header} {q : ℕ} → accepted h q ≡ (reader_outcome limits cap es ts s).answer → known_dialect (dialect_in h) ≡ true
form_known limits cap es ts s {h} {q} told =
    let w = seen-accepted _ _ _ _ told in
    subst (λ (x : Header). known_dialect (dialect_in x) ≡ true) (sym w.2) ((sure_under limits (header-known (record { entries = length es; tensors = length ts }) cap s)).holds w.0 q w.1)
