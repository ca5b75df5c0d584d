-- A big-endian file of version 3 is read the same behind either magic: past the version nothing
-- looks at the magic, and the version's bytes say the same. Assumes nothing.
use Rattle.std.specs.Prelude.{if◌then◌else◌}
use Prim.Native.Nat.{ℕ}
use mathlib.Core.Path.{◌≡◌, refl, sym, ap, ◌∙◌}
use mathlib.Core.List.{List}
use mathlib.Core.Bool.{Bool, true, false}
use native.Mathlib.Omega.{arith}
use lib.Dec.{leb}
use lib.ListN.{length}
use borrow.Author.Tests.{le-leb}
use Rattle.reading.specs.Ceilings.{under}
use Rattle.reading.specs.Each.{each, times}
use Rattle.reading.specs.Reading.{Reading, done, refuse, Answer, accepted, refused, run, seen, here, check, and_then, ◌>>=◌}
use Rattle.reading.specs.declared.Limits.{Limits}
use Rattle.reading.proofs.CeilingLaws.{run-under}
use Rattle.reading.proofs.Pieces.{from_there}
use Rattle.reading.proofs.Views.{shown-then, then_same, bind_shows, same-under}
use Rattle.fields.specs.Value.{number}
use Rattle.values.specs.declared.Dialect.{Dialect}
use Rattle.values.specs.Format.{size, text_looking, text, key, type, value_of, array, value, entry}
use Rattle.tensors.specs.Format.{length_at, lengths_of, shape, kind_and_offset, tensor, total_of}
use Rattle.start.specs.declared.Rooms.{Rooms}
use Rattle.start.specs.declared.Start.{Start}
use Rattle.start.specs.Format.{magic, version, counts, start}
use Rattle.start.proofs.StartMarks.{under-magic, under-counts}
use Rattle.header.specs.Answers.{reader_run, outcome_of, reader_outcome}
use Rattle.header.specs.Format.{FullHeader, judged, header}
use Rattle.header.specs.Magics.{magic_kept, magic_turned, either_header, either_magic}
use Rattle.header.proofs.Judged.{seen-judged}

-- The form of the magic.

-- a dialect with its magic turned round or not
abbrev with_magic : Bool → Dialect → Dialect
with_magic turned k = record { version = k.version; big = k.big; turned = turned }

-- and what stands before the records of such a file
abbrev start_with : Bool → Start → Start
start_with turned c = record { dialect = with_magic turned c.dialect; tensors = c.tensors; entries = c.entries }

-- no entry looks at it, and no tensor
any_entry : (turned : Bool) (k : Dialect) (cap : ℕ) → entry (with_magic turned k) cap ≡ entry k cap
unfolding entry key text_looking type value value_of array text size
any_entry turned k cap = refl

any_tensor : (turned : Bool) (k : Dialect) → tensor (with_magic turned k) ≡ tensor k
unfolding tensor text text_looking size shape lengths_of length_at kind_and_offset
any_tensor turned k = refl

-- the header, whether its magic is turned round or not
abbrev either : FullHeader → FullHeader
either w = record { head = either_header w.head; entries = w.entries; tensors = w.tensors }

module _ (s : List ℕ) where
  -- the counts go with either magic
  any_counts : (turned : Bool) (rooms : Rooms) (k : Dialect) (p : ℕ) → run (counts rooms (with_magic turned k)) s p ≡ seen (start_with turned) (run (counts rooms k) s p)
  unfolding counts size run seen
  any_counts turned rooms k p =
      bind_shows _ here s p _ _ (λ at q. bind_shows _ (size k) s q _ _ (λ n r. bind_shows _ here s r _ _ (λ from u. bind_shows _ (size k) s u _ _ (λ m v.
      bind_shows _ (check (leb n rooms.tensors) 6 at) s v _ _ (λ x y. bind_shows _ (check (leb m rooms.entries) 6 from) s y _ _ (λ z o. refl))))))

  module _ (l : Limits) where
    -- all that follows the counts
    abbrev records : ℕ → Start → Reading FullHeader
    records cap c = times c.entries (entry c.dialect cap) >>= (λ es. each (tensor c.dialect) total_of c.tensors 0 >>= (λ ts. here >>= (λ e. judged c es ts e)))

    any_records : (turned : Bool) (cap : ℕ) (c : Start) (p : ℕ) → seen either (run (under l (records cap (start_with turned c))) s p) ≡ seen either (run (under l (records cap c)) s p)
    any_records turned cap c p =
        rw (any_entry turned c.dialect cap, any_tensor turned c.dialect)
        (same-under either (times c.entries (entry c.dialect cap)) s p l _ _ (λ es q. same-under either (each (tensor c.dialect) total_of c.tensors 0) s q l _ _ (λ ts r.
        same-under either here s r l _ _ (λ e u. seen-judged either (start_with turned c) c es ts e refl l s u))))

    -- all that follows the version
    any_rest : (turned : Bool) (rooms : Rooms) (cap : ℕ) (k : Dialect) (p : ℕ)
        → seen either (run (under l (counts rooms (with_magic turned k) >>= records cap)) s p) ≡ seen either (run (under l (counts rooms k >>= records cap)) s p)
    any_rest turned rooms cap k p =
        rw (run-under l (counts rooms (with_magic turned k)) (records cap) s p, under-counts l rooms (with_magic turned k) s p, any_counts turned rooms k p, shown-then, run-under l (counts rooms k) (records cap) s p, under-counts l rooms k s p)
        (then_same either (run (counts rooms k) s p) _ _ (λ c q. any_records turned cap c q))

    module _ (rooms : Rooms) (cap : ℕ) {turned : Bool} (magical : accepted turned 4 ≡ run magic s 0) where
      -- past the version, and where that is refused
      goes_past : {k : Dialect} {p : ℕ} → accepted k p ≡ run (under l (version turned)) s 4 → run (under l (header rooms cap)) s 0 ≡ run (under l (counts rooms k >>= records cap)) s p
      unfolding header start and_then
      goes_past {k} {p} e = rw (run-under l (start rooms), run-under l magic, under-magic, ← magical, run-under l (version turned), ← e, run-under l (counts rooms k) (records cap) s p) refl

      stops-there : {n p : ℕ} → refused n p ≡ run (under l (version turned)) s 4 → run (under l (header rooms cap)) s 0 ≡ refused n p
      unfolding header start and_then
      stops-there e = rw (run-under l (start rooms), run-under l magic, under-magic, ← magical, run-under l (version turned), ← e) refl

-- what a run comes to, but for the magic
of_either : (es ts : List (List ℕ)) (x : Answer FullHeader) → either_magic (outcome_of es ts x) ≡ outcome_of es ts (seen either x)
unfolding seen
of_either es ts (accepted w q) = refl
of_either es ts (refused n p) = refl

-- a big-endian file of version 3
abbrev big_three : Bool → Dialect
big_three turned = record { version = 3; big = true; turned = turned }

-- what its version's bytes say, where there is a ceiling
abbrev version_in : Limits → Bool → Answer Dialect
version_in l turned = if leb 3 l.versions then accepted (big_three turned) 8 else refused 5 4

-- an answer or a refusal, by a test
limited : {A : Type 0} (b : Bool) (a : A) (s : List ℕ) → (if b then accepted a 8 else refused 5 4) ≡ run (if b then done a else refuse 5 4) s 8
unfolding run
limited true a s = refl
limited false a s = refl

module _ (r : List ℕ) where
  -- the magic and the version of both forms
  kept-magic : accepted false 4 ≡ run magic (magic_kept r) 0
  unfolding magic number here run ◌>>=◌
  kept-magic = rw (le-leb 4 (length (magic_kept r)) (omega arith)) refl

  turned-magic : accepted true 4 ≡ run magic (magic_turned r) 0
  unfolding magic number here run ◌>>=◌
  turned-magic = rw (le-leb 4 (length (magic_turned r)) (omega arith)) refl

  kept-version : (l : Limits) → version_in l false ≡ run (under l (version false)) (magic_kept r) 4
  unfolding version number here under run ◌>>=◌
  kept-version l = rw (le-leb 8 (length (magic_kept r)) (omega arith)) (limited (leb 3 l.versions) (big_three false) (magic_kept r))

  turned-version : (l : Limits) → version_in l true ≡ run (under l (version true)) (magic_turned r) 4
  unfolding version number here under run ◌>>=◌
  turned-version l = rw (le-leb 8 (length (magic_turned r)) (omega arith)) (limited (leb 3 l.versions) (big_three true) (magic_turned r))

  -- whatever the ceilings, the rows and the cap are
  either-run : (l : Limits) (rooms : Rooms) (cap : ℕ) → seen either (run (under l (header rooms cap)) (magic_kept r) 0) ≡ seen either (run (under l (header rooms cap)) (magic_turned r) 0)
  either-run l rooms cap = by (leb 3 l.versions) (kept-version l) (turned-version l)
    where
      by : (b : Bool) → (if b then accepted (big_three false) 8 else refused 5 4) ≡ run (under l (version false)) (magic_kept r) 4
          → (if b then accepted (big_three true) 8 else refused 5 4) ≡ run (under l (version true)) (magic_turned r) 4
          → seen either (run (under l (header rooms cap)) (magic_kept r) 0) ≡ seen either (run (under l (header rooms cap)) (magic_turned r) 0)
      by true e f =
          ap (seen either) (goes_past (magic_kept r) l rooms cap kept-magic e ∙ from_there _ (magic_kept r) (magic_turned r) 8 (omega arith) (omega arith) refl)
          ∙ sym (ap (seen either) (goes_past (magic_turned r) l rooms cap turned-magic f) ∙ any_rest (magic_turned r) l true rooms cap (big_three false) 8)
      by false e f = ap (seen either) (stops-there (magic_kept r) l rooms cap kept-magic e ∙ sym (stops-there (magic_turned r) l rooms cap turned-magic f))

  -- What `header::read` comes to is the same behind either magic, its answer and both tables, but for
  -- whether the magic is turned round.
  pub either-magic : (l : Limits) (cap : ℕ) (es ts : List (List ℕ)) → either_magic (reader_outcome l cap es ts (magic_kept r)) ≡ either_magic (reader_outcome l cap es ts (magic_turned r))
  either-magic l cap es ts = of_either es ts (reader_run l cap es ts (magic_kept r)) ∙ ap (outcome_of es ts) (either-run l _ cap) ∙ sym (of_either es ts (reader_run l cap es ts (magic_turned r)))
