-- The entries of a header that was measured are read again from where they begin. Assumes nothing.
use Prim.Native.Nat.{ℕ}
use mathlib.Core.Path.{◌≡◌, sym, ap, ◌∙◌}
use mathlib.Core.List.{List}
use Rattle.reading.specs.Back.{Sure}
use Rattle.reading.specs.Ceilings.{under}
use Rattle.reading.specs.Each.{times}
use Rattle.reading.specs.Reading.{Answer, accepted, run, seen}
use Rattle.reading.specs.declared.Limits.{Limits}
use Rattle.reading.proofs.SureLaws.{sure_then, sure_here, sure_run, sure_under, whatever}
use Rattle.reading.proofs.Repetition.{seen-accepted}
use Rattle.values.specs.Format.{entry}
use Rattle.values.specs.declared.Entry.{Entry}
use Rattle.header.specs.Contents.{dialect_in}
use Rattle.header.specs.Format.{FullHeader, header}
use Rattle.header.specs.declared.Header.{Header}
use Rattle.start.specs.declared.Rooms.{Rooms}
use Rattle.start.proofs.StartEnds.{begins, start-ends}
use Rattle.header.proofs.Judged.{sure_judged}

module _ (s : List ℕ) where
  -- the entries of a header, read from what it says
  abbrev pub entries_for : ℕ → Header → Answer (List Entry)
  entries_for cap h = run (times h.entries (entry (dialect_in h) cap)) s (begins (dialect_in h))

  entries-there : (rooms : Rooms) (cap : ℕ) → Sure s (header rooms cap) 0 (λ w q. (r : ℕ) × (accepted w.entries r ≡ entries_for cap w.head))
  unfolding header
  entries-there rooms cap =
      sure_then (start-ends s rooms) (λ c p at. sure_then (sure_run whatever) (λ es q read. sure_then whatever (λ ts e u.
      sure_here _ (sure_judged c es ts e (λ tested. (q, read.1 ∙ ap (λ z. run (times c.entries (entry c.dialect cap)) s z) at))))))

-- all that is known where a reader tells h: the whole run, and its entries, which are there to be
-- read again
pub record Again (l : Limits) (rooms : Rooms) (cap : ℕ) (s : List ℕ) (h : Header) : Type 0 where
  pub whole : FullHeader
  pub end : ℕ
  pub all : accepted whole end ≡ run (under l (header rooms cap)) s 0
  pub after : ℕ
  pub entries : accepted whole.entries after ≡ entries_for s cap h

pub again : (l : Limits) (rooms : Rooms) (cap : ℕ) (s : List ℕ) {h : Header} {e : ℕ} → accepted h e ≡ seen (λ w. w.head) (run (under l (header rooms cap)) s 0) → Again l rooms cap s h
again l rooms cap s {h} {e} told =
    let w = seen-accepted _ _ _ _ told in
    let i = (sure_under l (entries-there s rooms cap)).holds w.0 e w.1 in
    record { whole = w.0; end = e; all = w.1; after = i.0; entries = i.1 ∙ ap (entries_for s cap) (sym w.2) }
