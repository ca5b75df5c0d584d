-- No lookup is refused because there are too few rows: it reads with rows for any count. Assumes
-- nothing.
use Rattle.values.specs.declared.Entry.{Entry}
use Rattle.std.specs.Prelude.{Option, Some, None}
use Prim.Native.Nat.{ℕ}
use mathlib.Core.Path.{◌≡◌, sym}
use mathlib.Core.List.{List}
use native.Mathlib.Omega.{arith}
use Rattle.reading.specs.Replies.{refuses, reply_of}
use Rattle.reading.specs.Back.{All}
use Rattle.fields.specs.Bytes.{Byte}
use Rattle.reading.specs.Reading.{Answer, accepted, refused}
use Rattle.reading.proofs.Repetition.{seen-refused}
use Rattle.reading.specs.Ceilings.{full}
use Rattle.header.proofs.NeverSix.{never-6}
use Rattle.lookup.specs.Questions.{lookup}

-- a lookup's refusal is the whole reader's
asked : (r : Answer (Option Entry)) {n p : ℕ} → refuses n p ≡ reply_of r → refused n p ≡ r
asked (accepted (Some e) q) h = let z : ◌≡◌ {A = ℕ} 0 1 = cc in absurd (omega arith)
asked (accepted None q) h = let z : ◌≡◌ {A = ℕ} 0 1 = cc in absurd (omega arith)
asked (refused n p) h = cc

pub lookup-never-6 : (key s : List ℕ) → All Byte s → {p : ℕ} → lookup key s ≡ refuses 6 p → ⊥
lookup-never-6 key s bytes e = never-6 full 3 s bytes (sym (seen-refused _ _ _ _ (asked _ (sym e))))
