-- A reader's refusals are those of the table, each at a place within the bytes. Assumes nothing.
use Prim.Native.Nat.{ℕ}
use mathlib.Core.Path.{◌≡◌, refl, sym}
use mathlib.Core.List.{List}
use native.Mathlib.Omega.{arith}
use lib.ListN.{length}
use Rattle.reading.specs.Reading.{refused}
use Rattle.reading.specs.Refusals.{OneOf, Refuses}
use Rattle.reading.specs.declared.Limits.{Limits}
use Rattle.reading.proofs.RefusalLaws.{listed_too}
use Rattle.reading.proofs.Repetition.{seen-refused}
use Rattle.start.specs.declared.Rooms.{Rooms}
use Rattle.header.specs.Answers.{reader_run, reader_outcome}
use Rattle.header.specs.Format.{header}
use Rattle.header.specs.Refusals.{reader_refusals}
use Rattle.header.proofs.HeaderRefusals.{part_refusals, refuses_header}

header-listed : (l : Limits) (rooms : Rooms) (cap : ℕ) (s : List ℕ) → Refuses l s (OneOf reader_refusals s) (header rooms cap)
header-listed l rooms cap s =
    refuses_header rooms cap (λ n q h low. record { listed = listed_too n part_refusals reader_refusals refl h; inside = low })
    (λ k p. record { holds = λ n q e o low. (λ f. record { listed = refl; inside = low }, λ f. record { listed = refl; inside = low }) })
    (λ k n p es q e read low f. record { listed = refl; inside = low })

module _ (limits : Limits) (cap : ℕ) (es ts : List (List ℕ)) (s : List ℕ) {n p : ℕ} where
  -- whatever the bytes, the ceilings, the cap and the tables: a run that is refused is refused with
  -- a number of the table, at a place within the bytes
  pub run_refusals_listed : reader_run limits cap es ts s ≡ refused n p → OneOf reader_refusals s n p
  run_refusals_listed e = (header-listed limits (record { entries = length es; tensors = length ts }) cap s).refusal 0 (omega arith) n p (sym e)

  -- and so is a reader's answer
  pub refusals_listed : (reader_outcome limits cap es ts s).answer ≡ refused n p → OneOf reader_refusals s n p
  refusals_listed e = run_refusals_listed (sym (seen-refused _ _ _ _ (sym e)))
