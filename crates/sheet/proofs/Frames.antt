-- An entry in its frame: where its opening is bad, or its end is past the sheet, it is refused,
-- whatever is inside. Assumes nothing.
use Rattle.std.specs.Prelude.{if◌then◌else◌, Option, Some, None}
use Prim.Native.Nat.{ℕ, ◌≤◌, ◌<◌, max}
use mathlib.Core.Path.{◌≡◌, refl, sym, ◌∙◌}
use mathlib.Core.List.{List}
use mathlib.Core.Bool.{Bool, true, false}
use native.Mathlib.Omega.{arith}
use lib.Dec.{leb, eqb}
use lib.ListN.{length}
use borrow.Author.Tests.{leb-false, ne_eqb, tests}
use Rattle.reading.proofs.Sames.{same_found}
use Rattle.reading.specs.Reading.{Reading, done, Answer, accepted, refused, run, ◌>>=◌, ◌>>◌, here, check, and_then}
use Rattle.reading.proofs.RunLaws.{goes_on, run_bind, stops, inside}
use Rattle.sheet.specs.Format.{opening, framed}
use Rattle.sheet.proofs.PartsFound.{sure_opening}
use Rattle.sheet.proofs.BackFromAnswers.{Refusal}
use Rattle.sheet.specs.Steps.{opened_of}

-- an answer that stays where it ends at e
abbrev pub up_to : {A : Type 0} → ℕ → Answer A → Answer A
up_to e (accepted a q) = if eqb q e then accepted a q else refused 31 0
up_to e (refused n p) = refused n p

checked : {A : Type 0} (b : Bool) (a : A) (s : List ℕ) (p : ℕ) → run (check b 31 0 >> done a) s p ≡ (if b then accepted a p else refused 31 0)
unfolding run ◌>>=◌
checked true a s p = refl
checked false a s p = refl

closed : {A : Type 0} (s : List ℕ) (e : ℕ) (r : Answer A) → and_then r (λ a p. run (here >>= (λ q. check (eqb q e) 31 0 >> done a)) s p) ≡ up_to e r
unfolding run ◌>>=◌ here and_then
closed s e (accepted a q) = checked (eqb q e) a s q
closed s e (refused n p) = refl

past_end : {A : Type 0} (e : ℕ) (r : Answer A) → ((a : A) (q : ℕ) → accepted a q ≡ r → q < e) → Refusal (up_to e r)
past_end e (accepted a q) short = let less = short a q refl in record { why = 31; place = 0; is = rw (ne_eqb q e (λ same. omega arith)) }
past_end e (refused n p) short = record { why = n; place = p; is = refl }

open_cases : (len e q : ℕ) (b : Bool) → leb e len ≡ b → ◌≡◌ {A = Option (ℕ × ℕ)} None (if b then Some (q, e) else None) → len < e
open_cases len e q true h z = let o : ◌≡◌ {A = ℕ} 0 1 = cc in absurd (omega arith)
open_cases len e q false h z = leb-false e len h

module _ {A : Type 0} (s : List ℕ) (tag p : ℕ) (inner : ℕ → Reading A) where
  -- an opening, and then what is inside, used up exactly
  pub framed-run : {e q : ℕ} → accepted e q ≡ run (opening tag) s p → run (framed tag inner) s p ≡ up_to e (run (inner e) s q)
  unfolding framed
  framed-run {e} {q} o = goes_on (opening tag) _ s p o ∙ run_bind (inner e) _ s q ∙ closed s e (run (inner e) s q)

  past : {e q : ℕ} → accepted e q ≡ run (opening tag) s p → length s < e → Refusal (run (framed tag inner) s p)
  past {e} {q} o far =
      let there = ((sure_opening s tag p).holds e q o).1 in
      let x = past_end e (run (inner e) s q) (λ a r h. let i : r ≤ max q (length s) = inside (inner e) s q h in omega arith) in
      record { why = x.why; place = x.place; is = x.is ∙ sym (framed-run o) }

  unopened_cases : (r : Answer ℕ) → r ≡ run (opening tag) s p → None ≡ opened_of (length s) r → Refusal (run (framed tag inner) s p)
  unfolding framed
  unopened_cases (accepted e q) o z = past o (open_cases (length s) e q (leb e (length s)) refl z)
  unopened_cases (refused n w) o z = record { why = n; place = w; is = sym (stops (opening tag) _ s p o) }

  pub unopened : None ≡ opened_of (length s) (run (opening tag) s p) → Refusal (run (framed tag inner) s p)
  unopened z = unopened_cases (run (opening tag) s p) refl z

body_cases : (q e q' e' : ℕ) (b : Bool) → ◌≡◌ {A = Option (ℕ × ℕ)} (Some (q, e)) (if b then Some (q', e') else None) → accepted e q ≡ accepted e' q'
body_cases q e q' e' true h = let z = same_found _ _ _ _ h in rw (z.0, z.1) refl
body_cases q e q' e' false h = let o : ◌≡◌ {A = ℕ} 0 1 = cc in absurd (omega arith)

-- an opening that is there
pub opened : (len : ℕ) (r : Answer ℕ) {q e : ℕ} → Some (q, e) ≡ opened_of len r → accepted e q ≡ r
opened len (accepted e' q') {q} {e} h = body_cases q e q' e' (leb e' len) h
opened len (refused n p) h = let o : ◌≡◌ {A = ℕ} 0 1 = cc in absurd (omega arith)

module _ {A : Type 0} (s : List ℕ) (tag p : ℕ) (inner : ℕ → Reading A) where
  -- what is inside ends within the bytes
  pub framed-inside : {e q : ℕ} → accepted e q ≡ run (opening tag) s p → {a : A} {r : ℕ} → accepted a r ≡ run (inner e) s q → r ≤ length s
  framed-inside {e} {q} o {a} {r} h =
      let there = ((sure_opening s tag p).holds e q o).1 in
      let i : r ≤ max q (length s) = inside (inner e) s q h in
      omega arith

-- the steps of an entry in its frame
pub ruleset frame_steps = (run_bind, framed-inside, tests)
