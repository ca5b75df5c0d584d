-- `lookup::find` meets its contract: a header's refusal is handed on, and where all is there the
-- last entry of the key is found in its entries, which are read again. Assumes nothing.
use Rattle.std.proofs.Common.{rules, Err}
use mathlib.Core.Path.{◌≡◌, refl, sym, ap, ◌∙◌}
use Rattle.reading.specs.Each.{times}
use Rattle.reading.specs.Reading.{accepted, run, is_accepted, seen}
use Rattle.reading.proofs.Repetition.{seen-refused}
use Rattle.reading.specs.Ceilings.{full}
use Prim.Native.Nat.{◌+◌}
use Rattle.values.specs.declared.Dialect.{Dialect}
use Rattle.values.specs.Format.{entry, size_width}
use Rattle.header.proofs.EntriesAgain.{Again, again}
use Rattle.start.specs.Format.{enough}
use Rattle.lookup.proofs.find.Goals.{After-first_entry-at}
use Rattle.lookup.proofs.find.Goals as goal

-- all that is known where a header was told
told : (c : After-first_entry-at) → Again full enough 3 c.args.s.now c.in_ok-head.head
told c = again _ _ _ _ c.in_ok-head.ensures

-- its entries are there
there : (c : After-first_entry-at) → accepted (told c).whole.entries (told c).after ≡ run (times c.in_ok-head.head.entries (entry c.dialect-dialect.result 3)) c.args.s.now c.first_entry-at.result
there c =
    let n = c.in_ok-head.head.entries in
    let k = c.dialect-dialect.result in
    (told c).entries
    ∙ ap (λ (x : Dialect). run (times n (entry x 3)) c.args.s.now (8 + size_width x + size_width x)) (sym c.dialect-dialect.ensures)
    ∙ ap (run (times n (entry k 3)) c.args.s.now) (sym c.first_entry-at.ensures)

pub returns-in_err-head : goal.returns-in_err-head
unfolding seen
returns-in_err-head c =
    let up : c.from_residual.result ≡ Err c.in_err-head.field-0.0 = search rules in
    let r = seen-refused _ _ _ _ c.in_err-head.ensures in
    rw (up, ← r) refl

pub find_last-requires : goal.find_last-requires
find_last-requires c = ap is_accepted (sym (there (goal.at.find_last-requires c).After-first_entry-at))

pub returns : goal.returns
unfolding seen
returns c =
    let i = (goal.at.returns c).After-first_entry-at in
    rw (c.find_last.ensures, ← there i, ← (told i).all) refl
