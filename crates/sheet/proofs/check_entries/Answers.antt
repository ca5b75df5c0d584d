-- `sheet::check_entries` meets its contract. The invariant: the entries that are left, with those
-- that were counted, are all; and no more were counted than bytes were passed, so that turns are
-- left where an entry is. Assumes nothing.
use Prim.Native.Nat.{◌+◌, ◌-◌}
use mathlib.Core.Bool.{true}
use mathlib.Core.Path.{◌≡◌, sym, ap, ◌∙◌}
use native.Mathlib.Omega.{arith}
use lib.ListN.{length}
use Rattle.reading.specs.Reading.{run}
use Rattle.values.specs.Contents.{inside_of}
use Rattle.sheet.specs.Sheet.{as_many_as, is_metadata, next, key_of, last_key, last_in}
use Rattle.sheet.specs.declared.EntryParts.{EntryParts}
use Rattle.sheet.proofs.ManyEntries.{added, many_stops, many_more, tag_inside, next-told}
use Rattle.sheet.proofs.BackFromAnswers.{entry_yes}
use Rattle.sheet.specs.Steps.{count_of}
use Rattle.sheet.proofs.check_entries.Goals.{In-loop-last}
use Rattle.sheet.proofs.check_entries.Goals as goal

-- an entry follows
tagged : (c : In-loop-last) → is_metadata c.args.s.now c.loop-last.from ≡ true
tagged c = sym c.is_metadata.ensures ∙ c.loop-last-test.true

pub returns-in_err-parts : goal.returns-in_err-parts
returns-in_err-parts c =
    let l = c.loop-last in
    let s = c.args.s.now in
    let t = tagged (goal.at.returns-in_err-parts c).In-loop-last in
    let i = tag_inside s l.from t in
    grind (arith, many_stops)

pub loop-last-smaller : goal.loop-last-smaller
loop-last-smaller c =
    let l = c.loop-last in
    let s = c.args.s.now in
    let i = tag_inside s l.from (tagged (goal.at.loop-last-smaller c).In-loop-last) in
    let r = entry_yes (run (next (last_in s l.last)) s l.from) (sym c.in_ok-parts.ensures.ok_part ∙ c.next_entry.ensures) in
    let j = (next-told s (last_in s l.last) l.from r.is).0 in
    omega arith

pub loop-last-preserved : goal.loop-last-preserved
loop-last-preserved c =
    let l = c.loop-last in
    let s = c.args.s.now in
    let t = tagged (goal.at.loop-last-preserved c).In-loop-last in
    let i = tag_inside s l.from t in
    let r = entry_yes (run (next (last_in s l.last)) s l.from) (sym c.in_ok-parts.ensures.ok_part ∙ c.next_entry.ensures) in
    let j = next-told s (last_in s l.last) l.from r.is in
    let key : last_key (inside_of s c.in_ok-parts.parts.key) ≡ last_key r.what.content.key =
    ap (λ (y : EntryParts). last_key (inside_of s y.key)) r.told ∙ ap last_key j.1 in (
      omega arith,
      l.invariant.1
          ∙ many_more is_metadata next key_of (length s) s l.from (last_in s l.last) l.count (omega arith) t r.is
          ∙ ap (λ z. added (l.count + 1) (count_of (as_many_as is_metadata next key_of (length s - (l.count + 1)) z s c.in_ok-parts.next))) (sym key),
    )
