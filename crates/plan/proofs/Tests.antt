-- What the tests of a writer say, one after the other. Assumes nothing.
use Rattle.reading.proofs.Sames.{same_ok}
use Rattle.reading.specs.Replies.{Reply, gives, refuses}
use Rattle.std.specs.Prelude.{if◌then◌else◌, Some, None, Ok, Err}
use Prim.Native.Nat.{ℕ, ◌+◌, ◌%◌, ◌≤◌, ◌<◌}
use mathlib.Core.Path.{◌≡◌, refl, sym, ap, ◌∙◌}
use mathlib.Core.Bool.{Bool, true, false, not}
use mathlib.Core.List.{List, map}
use native.Mathlib.Omega.{arith}
use lib.ListN.{length}
use lib.Dec.{eqb}
use borrow.Author.Tests.{eqb-true, eq-eqb, ne_eqb, le-leb, lt-leb}
use Rattle.reading.specs.Choice.{require}
use Rattle.reading.specs.Reading.{Answer, accepted, refused, is_accepted}
use Rattle.layout.specs.Layout.{layout_of}
use Rattle.values.specs.declared.Dialect.{Dialect}
use Rattle.sheet.specs.Sheet.{Records, sheet_of, checked_of}
use Rattle.plan.specs.declared.Plan.{Plan}
use Rattle.plan.specs.declared.Draft.{Draft}
use Rattle.plan.specs.Header.{own_alignment, adds, entries_of, piece_of, records_in}
use Rattle.plan.specs.Plan.{require_formed, can_add, agrees, laid_of, require_laid, counts_fit, draft_with, draft_of, plan_for}
use Rattle.start.specs.Format.{known_dialect}
use Rattle.header.specs.Format.{is_alignment_lem}
use Rattle.plan.specs.Steps.{roomed, laid, aligned}
use Rattle.plan.proofs.Drafts.{entries-count}

-- The form, and whether the sheet is well formed.

module _ (k : Dialect) (a room : ℕ) (s : List ℕ) where
  pub form_unknown : known_dialect k ≡ false → refuses 30 0 ≡ plan_for k a room s
  unfolding plan_for
  form_unknown e = rw e

  module _ (known : known_dialect k ≡ true) where
    by_sheet : require_formed (sheet_of s) 31 (aligned k a room) ≡ plan_for k a room s
    unfolding plan_for
    by_sheet = rw known

    bad_cases : (r : Answer Records) {p : ℕ} → Err p ≡ checked_of r → refuses 31 p ≡ require_formed r 31 (aligned k a room)
    bad_cases (accepted c e) i = let z : ◌≡◌ {A = ℕ} 0 1 = cc in absurd (omega arith)
    bad_cases (refused n o) {p} i = let l : p ≡ o = cc in rw l

    pub not-formed : {p : ℕ} → Err p ≡ checked_of (sheet_of s) → refuses 31 p ≡ plan_for k a room s
    not-formed e = bad_cases (sheet_of s) e ∙ by_sheet

    formed_cases : (r : Answer Records) → is_accepted r ≡ true → aligned k a room (records_in r) ≡ require_formed r 31 (aligned k a room)
    formed_cases (accepted c e) h = refl
    formed_cases (refused n o) h = let z : ◌≡◌ {A = ℕ} 0 1 = cc in absurd (omega arith)

    pub well_formed : is_accepted (sheet_of s) ≡ true → aligned k a room (records_in (sheet_of s)) ≡ plan_for k a room s
    well_formed h = formed_cases (sheet_of s) h ∙ by_sheet

-- what is counted of a sheet that is well formed
pub counted : (r : Answer Records) {n m f : ℕ} → Ok (record { entries = n; tensors = m; first = f }) ≡ checked_of r → (is_accepted r ≡ true) × (record { entries = n; tensors = m; first = f; adds = false } ≡ draft_with false (records_in r))
counted (accepted c e) {n} {m} {f} h =
    let all = same_ok _ _ h in
    let i : n ≡ length c.entries = ap (λ x. x.entries) all in
    let j : m ≡ length c.tensors = ap (λ x. x.tensors) all in
    let l : f ≡ c.first = ap (λ x. x.first) all in
    (refl, rw (i, j, l))
counted (refused o p) h = let z : ◌≡◌ {A = ℕ} 0 1 = cc in absurd (omega arith)

-- The alignment.

-- one that no sheet says is added, unless it is 32
pub must-add : (a : ℕ) → not (eqb a 32) ≡ true → a ≡ 32 → ⊥
must-add a e h = let f : false ≡ true = rw (eq-eqb a 32 h) at e in absurd (cc)

pub need-not-add : (a : ℕ) → not (eqb a 32) ≡ false → a ≡ 32
need-not-add a e = by (eqb a 32) refl e
  where
    by : (b : Bool) → eqb a 32 ≡ b → not b ≡ false → a ≡ 32
    by true f e = eqb-true a 32 f
    by false f e = absurd (cc)

-- a test that holds lets what follows it through
tested : (t : Bool) (refusal rest : Reply Plan) → t ≡ true → rest ≡ require t refusal rest
tested t refusal rest e = rw e

module _ (k : Dialect) (a room : ℕ) (c : Records) where
  pub aligned-none : a ≡ 0 → refuses 32 0 ≡ aligned k a room c
  aligned-none e = rw (eq-eqb a 0 e)

  module _ (some : a ≡ 0 → ⊥) where
    pub aligned-not : (a % 8 ≡ 0 → ⊥) → refuses 32 0 ≡ aligned k a room c
    aligned-not h = rw (ne_eqb a 0 some, ne_eqb (a % 8) 0 h)

    module _ (eighth : a % 8 ≡ 0) where
      agreed : can_add a (own_alignment c.entries) ≡ true → agrees a (own_alignment c.entries) ≡ true → laid k a room c ≡ aligned k a room c
      agreed f g =
          tested (agrees a (own_alignment c.entries)) (refuses 34 0) (laid k a room c) g
          ∙ tested (can_add a (own_alignment c.entries)) (refuses 33 0) (require (agrees a (own_alignment c.entries)) (refuses 34 0) (laid k a room c)) f
          ∙ tested (is_alignment_lem a) (refuses 32 0) (require (can_add a (own_alignment c.entries)) (refuses 33 0) (require (agrees a (own_alignment c.entries)) (refuses 34 0) (laid k a room c))) (rw (ne_eqb a 0 some, eq-eqb (a % 8) 0 eighth))

      module _ {x : ℕ} (said : Some x ≡ own_alignment c.entries) where
        pub other-said : (x ≡ a → ⊥) → refuses 34 0 ≡ aligned k a room c
        other-said h = rw (ne_eqb a 0 some, eq-eqb (a % 8) 0 eighth, ← said, ne_eqb x a h)

        pub same-said : x ≡ a → laid k a room c ≡ aligned k a room c
        same-said h = agreed (ap (can_add a) (sym said)) (ap (agrees a) (sym said) ∙ eq-eqb x a h)

      module _ (said : None ≡ own_alignment c.entries) where
        pub said_default : a ≡ 32 → laid k a room c ≡ aligned k a room c
        said_default h = agreed (ap (can_add a) (sym said) ∙ rw (eq-eqb a 32 h)) (ap (agrees a) (sym said))

        pub cannot_add : (a ≡ 32 → ⊥) → 4294967295 < a → refuses 33 0 ≡ aligned k a room c
        cannot_add other h = rw (ne_eqb a 0 some, eq-eqb (a % 8) 0 eighth, ← said, ne_eqb a 32 other, lt-leb a 4294967295 h)

        pub can-add : (a ≡ 32 → ⊥) → a ≤ 4294967295 → laid k a room c ≡ aligned k a room c
        can-add other h = agreed (ap (can_add a) (sym said) ∙ rw (ne_eqb a 32 other, le-leb a 4294967295 h)) (ap (agrees a) (sym said))

  -- what a draft of it is
  pub drafted : {d : Draft} {b : Bool} → d ≡ draft_with b c → adds a (own_alignment c.entries) ≡ b → d ≡ draft_of a c
  drafted e f = e ∙ ap (λ t. draft_with t c) (sym f)

  pub said-adds : {x : ℕ} → Some x ≡ own_alignment c.entries → adds a (own_alignment c.entries) ≡ false
  said-adds e = ap (adds a) (sym e)

  pub default_adds : None ≡ own_alignment c.entries → a ≡ 32 → adds a (own_alignment c.entries) ≡ false
  default_adds e h = ap (adds a) (sym e) ∙ rw (eq-eqb a 32 h)

  pub other-adds : None ≡ own_alignment c.entries → (a ≡ 32 → ⊥) → adds a (own_alignment c.entries) ≡ true
  other-adds e h = ap (adds a) (sym e) ∙ rw (ne_eqb a 32 h)

  -- The tensors and the counts.

  pub not-laid : {w i : ℕ} → refuses w i ≡ laid_of (layout_of a (map piece_of c.tensors)) → refuses w i ≡ laid k a room c
  not-laid e = ap (λ y. require_laid y (require (counts_fit k (length (entries_of a c.entries)) (length c.tensors)) (refuses 37 0) (roomed k a room c))) e

  module _ (fits : gives tt ≡ laid_of (layout_of a (map piece_of c.tensors))) where
    all_laid : require (counts_fit k (length (entries_of a c.entries)) (length c.tensors)) (refuses 37 0) (roomed k a room c) ≡ laid k a room c
    all_laid = ap (λ y. require_laid y (require (counts_fit k (length (entries_of a c.entries)) (length c.tensors)) (refuses 37 0) (roomed k a room c))) fits

    counts-told : {d : Draft} → d ≡ draft_of a c → counts_fit k (d.entries + (if d.adds then 1 else 0)) d.tensors ≡ counts_fit k (length (entries_of a c.entries)) (length c.tensors)
    counts-told e =
        ap (λ (y : Draft). counts_fit k (y.entries + (if y.adds then 1 else 0)) y.tensors) e ∙ ap (λ n. counts_fit k n (length c.tensors)) (sym (entries-count a c.entries))

    module _ {d : Draft} (told : d ≡ draft_of a c) where
      pub too_many : counts_fit k (d.entries + (if d.adds then 1 else 0)) d.tensors ≡ false → refuses 37 0 ≡ laid k a room c
      too_many h = ap (λ t. require t (refuses 37 0) (roomed k a room c)) (sym h ∙ counts-told told) ∙ all_laid

      pub few-enough : counts_fit k (d.entries + (if d.adds then 1 else 0)) d.tensors ≡ true → roomed k a room c ≡ laid k a room c
      few-enough h = ap (λ t. require t (refuses 37 0) (roomed k a room c)) (sym h ∙ counts-told told) ∙ all_laid
