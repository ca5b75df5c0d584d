-- Every refusal of a replay is one of those listed, at a place within the trace. Assumes nothing.
use Rattle.std.specs.Prelude.{if◌then◌else◌}
use Prim.Native.Nat.{ℕ, ◌-◌, ◌^◌}
use mathlib.Core.Path.{◌≡◌, refl, sym, ◌∙◌}
use mathlib.Core.Bool.{Bool, true, false}
use mathlib.Core.List.{List, [], ◌∷◌}
use native.Mathlib.Omega.{arith}
use lib.Dec.{leb, ltb, eqb}
use lib.ListN.{length, take}
use Rattle.reading.specs.Ceilings.{full, Low}
use Rattle.reading.specs.Each.{times}
use Rattle.reading.specs.Reading.{done, Answer, accepted, refused, run}
use Rattle.reading.specs.Refusals.{is_one_of, OneOf, Refuses}
use Rattle.reading.proofs.CeilingLaws.{low_run, low_bind, low-done, low-here, low_field, low-checked, low-each}
use Rattle.reading.proofs.RefusalLaws.{refuses_then, refuses_done, refuses_here, refuses_field, refuses_check, refuses_each, listed_too}
use Rattle.reading.proofs.Repetition.{seen_none}
use Rattle.fields.specs.Value.{value}
use Rattle.fields.proofs.NumberFields.{low-number, refuses_number}
use Rattle.fetches.specs.Trace.{fetch_of, fetch_end, fetch, trace, starting, cut_is43, fetches}
use Rattle.fetches.specs.Replay.{replay_refusals, replayed}

-- what the program of a trace refuses with
abbrev numbers : List ℕ
numbers = 1 ∷ 43 ∷ 44 ∷ []

-- the two tests of a record
abbrev sixteen : List ℕ → Bool
sixteen bs = eqb (value true (take 4 bs)) 16

abbrev ends : List ℕ → Bool
ends bs = ltb (fetch_end (fetch_of bs)) (2 ^ 64)

module _ (s : List ℕ) where
  low-fetch : Low full fetch
  unfolding fetch
  low-fetch =
      low_bind full _ _ (low-here full)
      (λ at. low_bind full _ _ (low_field full 20 20 (λ bs. bs))
      (λ bs. low-checked full (sixteen bs) 43 at _ (λ e. low-checked full (ends bs) 44 at (done (fetch_of bs)) (λ g. low-done full (fetch_of bs)))))

  low-trace : (n : ℕ) → Low full (trace n)
  unfolding trace
  low-trace n = low_bind full _ _ (low-number full 1 true) (λ v. low-checked full (eqb v 1) 43 0 (times n fetch) (λ e. low-each full {S = Unit {0}} (λ z. fetch) (λ z f. z) (λ z. low-fetch) n tt))

  refuses_fetch : Refuses full s (OneOf numbers s) fetch
  unfolding fetch
  refuses_fetch =
      refuses_here _
      (λ p low. refuses_then (refuses_field (λ q h. record { listed = refl; inside = h }))
      (λ bs. refuses_then (refuses_check (sixteen bs) 43 p (λ e. record { listed = refl; inside = low }))
      (λ t. refuses_then (refuses_check (ends bs) 44 p (λ e. record { listed = refl; inside = low })) (λ u. refuses_done))))

  refuses_trace : (n : ℕ) → Refuses full s (OneOf numbers s) (trace n)
  unfolding trace
  refuses_trace n =
      refuses_then (refuses_number 1 true (λ q h. record { listed = refl; inside = h }))
      (λ v. refuses_then (refuses_check (eqb v 1) 43 0 (λ e. record { listed = refl; inside = omega arith })) (λ t. refuses_each {S = Unit {0}} (λ z f. z) (λ z. refuses_fetch) n tt))

  run-listed : (k : ℕ) {n p : ℕ} → refused n p ≡ run (trace k) s 0 → OneOf numbers s n p
  run-listed k {n} {p} e = (refuses_trace k).refusal 0 (omega arith) n p (e ∙ sym (low_run full (trace k) (low-trace k) s 0))

  renamed : (m : ℕ) (b : Bool) → eqb m 1 ≡ b → (if b then true else is_one_of m (43 ∷ 44 ∷ [])) ≡ true → is_one_of (if b then 43 else m) replay_refusals ≡ true
  renamed m true e h = refl
  renamed m false e h = listed_too m (43 ∷ 44 ∷ []) replay_refusals refl h

  cut-listed : {A : Type 0} (r : Answer A) → ((m o : ℕ) → refused m o ≡ r → OneOf numbers s m o) → {n p : ℕ} → refused n p ≡ cut_is43 r → OneOf replay_refusals s n p
  cut-listed (accepted a q) all e = let z : ◌≡◌ {A = ℕ} 0 1 = cc in absurd (omega arith)
  cut-listed (refused m o) all {n} {p} e =
      let t = all m o refl in
      let i : n ≡ (if eqb m 1 then 43 else m) = cc in
      let j : p ≡ o = cc in
      record { listed = rw i (renamed m (eqb m 1) refl t.listed); inside = rw j t.inside }

  trace-listed : {n p : ℕ} → refused n p ≡ fetches s → OneOf replay_refusals s n p
  unfolding fetches
  trace-listed e = cut-listed (run (trace (starting (length s - 1))) s 0) (λ m o f. run-listed (starting (length s - 1)) f) e

by-room : (t : Bool) (s : List ℕ) (r : Answer (List ℕ)) {n p : ℕ} → (refused n p ≡ r → OneOf replay_refusals s n p) → refused n p ≡ (if t then r else refused 45 0) → OneOf replay_refusals s n p
by-room true s r f e = f e
by-room false s r {n} {p} f e =
    let i : n ≡ 45 = cc in
    let j : p ≡ 0 = cc in
    record { listed = rw i refl; inside = omega arith }

-- whatever the rows, the start, the file's length, the trace and the room
pub replay_refusals_listed : (rows : List (List ℕ)) (start file : ℕ) (s : List ℕ) (room : ℕ) {n p : ℕ} → refused n p ≡ replayed rows start file s room → OneOf replay_refusals s n p
unfolding replayed
replay_refusals_listed rows start file s room e = by-room (leb (length rows) room) s _ (λ f. trace-listed s (seen_none _ (fetches s) f)) e
