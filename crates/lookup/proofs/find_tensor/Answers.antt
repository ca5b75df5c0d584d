-- `lookup::find_tensor` meets its contract: a refusal of the start or of an entry is handed on, and
-- else the search through the tensors answers. Assumes nothing.
use Rattle.std.proofs.Common.{rules, Err}
use Prim.Native.Nat.{ℕ}
use mathlib.Core.Path.{◌≡◌, sym, ap, ◌∙◌}
use mathlib.Core.List.{List}
use native.Mathlib.Omega.{arith}
use Rattle.reading.specs.Ceilings.{under, full}
use Rattle.reading.specs.Each.{times, fold}
use Rattle.reading.specs.Reading.{accepted, refused, run, seen}
use Rattle.reading.proofs.CeilingLaws.{low_run}
use Rattle.reading.proofs.Repetition.{seen-accepted, seen-refused}
use Rattle.reading.proofs.RunLaws.{goes_on, stops}
use Rattle.values.specs.Format.{entry}
use Rattle.tensors.specs.Format.{total_of}
use Rattle.start.specs.Format.{start, enough}
use Rattle.start.specs.declared.Start.{Start}
use Rattle.start.proofs.StartMarks.{low-start}
use Rattle.header.specs.Format.{latest}
use Rattle.lookup.specs.Search.{seek}
use Rattle.lookup.specs.Tensors.{looked_tensor, first_tensor, tensor_found}
use Rattle.lookup.proofs.find_tensor.Goals as goal

module _ (name s : List ℕ) where
  -- no ceiling is met at the start
  plain-start : run (under full (start enough)) s 0 ≡ run (start enough) s 0
  plain-start = low_run full (start enough) (low-start full (omega arith) enough) s 0

  -- the question after each of its stages
  no_start : {n p : ℕ} → refused n p ≡ run (under full (start enough)) s 0 → run (first_tensor name) s 0 ≡ refused n p
  unfolding first_tensor
  no_start e = stops (start enough) _ s 0 (e ∙ plain-start)

  module _ {c : Start} {p : ℕ} (e : accepted c p ≡ run (under full (start enough)) s 0) where
    no_entries : {n q : ℕ} → refused n q ≡ seen (fold latest 32) (run (times c.entries (entry c.dialect 3)) s p) → run (first_tensor name) s 0 ≡ refused n q
    unfolding first_tensor
    no_entries f = goes_on (start enough) _ s 0 (e ∙ plain-start) ∙ stops (times c.entries (entry c.dialect 3)) _ s p (seen-refused _ _ _ _ f)

    to-tensors : {a q : ℕ} → accepted a q ≡ seen (fold latest 32) (run (times c.entries (entry c.dialect 3)) s p)
        → run (first_tensor name) s 0 ≡ run (seek (looked_tensor name c.dialect) total_of c.tensors 0 0) s q
    unfolding first_tensor
    to-tensors f = goes_on (start enough) _ s 0 (e ∙ plain-start) ∙ goes_on (times c.entries (entry c.dialect 3)) _ s p (seen-accepted _ _ _ _ f).1

pub returns-in_err-start : goal.returns-in_err-start
returns-in_err-start c =
    let up : c.from_residual.result ≡ Err c.in_err-start.field-0.0 = search rules in
    rw up (sym (ap tensor_found (no_start _ _ c.in_err-start.ensures)))

pub returns-in_err-q : goal.returns-in_err-q
returns-in_err-q c =
    let up : c.from_residual-in_err-q.result ≡ Err c.in_err-q.field-0.0 = search rules in
    rw up (sym (ap tensor_found (no_entries _ _ c.in_ok-start.ensures c.in_err-q.ensures)))

pub returns : goal.returns
returns c = c.seek_tensor.ensures ∙ sym (ap tensor_found (to-tensors _ _ c.in_ok-start.ensures c.in_ok-q.ensures))
