-- The header of a sheet that can be written says the caller's alignment: by the entry that is
-- added, by the sheet's own, or by none where it is 32. Assumes nothing.
use Rattle.std.specs.Prelude.{if◌then◌else◌, Option, Some, None}
use Prim.Native.Nat.{ℕ, ◌%◌, ◌^◌, ◌≤◌, ◌<◌}
use mathlib.Core.Path.{◌≡◌, refl, sym, ap, subst, ◌∙◌}
use mathlib.Core.Bool.{Bool, true, false, not}
use mathlib.Core.List.{List, [], ◌∷◌, map}
use native.Mathlib.Omega.{arith}
use native.Mathlib.Nat.{mod-eq_of_lt}
use borrow.Author.Tests.{leb-true, eqb-true, eqb-false}
use lib.Dec.{leb, eqb}
use Rattle.reading.specs.Back.{All}
use Rattle.reading.specs.Each.{fold}
use Rattle.fields.specs.Order.{before}
use Rattle.values.specs.Format.{is_word, alignment_key}
use Rattle.values.specs.Contents.{a_scalar}
use Rattle.header.specs.Format.{usable, is_alignment_lem}
use Rattle.header.specs.Contents.{content_alignment, latest_content, alignment_in}
use Rattle.sheet.specs.Format.{SheetEntry}
use Rattle.plan.specs.Header.{own_alignment_with, own_alignment, adds, alignment_entry, inserted, entry_in, entries_with, entries_of}
use Rattle.plan.specs.Plan.{can_add, agrees}

-- the alignment that is said, or x where none is
abbrev or_else : ℕ → Option ℕ → ℕ
or_else x (Some y) = y
or_else x None = x

one-said : (x : ℕ) (z : Option ℕ) (b : Bool) (y : ℕ) → (if b then y else or_else x z) ≡ or_else x (if b then Some y else z)
one-said x z true y = refl
one-said x z false y = refl

-- a reader that starts from x finds what the sheet's entries say, or x
all_said : (x : ℕ) (z : Option ℕ) (es : List SheetEntry) → fold latest_content (or_else x z) (map entry_in es) ≡ or_else x (fold own_alignment_with z es)
all_said x z [] = refl
all_said x z (e ∷ es) =
    let step : latest_content (or_else x z) (entry_in e) ≡ or_else x (own_alignment_with z e) = one-said x z (is_word alignment_key e.content.key) (content_alignment e.content.value) in
    ap (λ y. fold latest_content y (map entry_in es)) step ∙ all_said x (own_alignment_with z e) es

-- what was said is not taken back
stays-said : (y : ℕ) (es : List SheetEntry) → fold own_alignment_with (Some y) es ≡ None → ⊥
stays-said y [] h = let z : ◌≡◌ {A = ℕ} 0 1 = cc in omega arith
stays-said y (e ∷ es) h = by (is_word alignment_key e.content.key) (stays-said y es) (stays-said (content_alignment e.content.value) es) h
  where
    by : (b : Bool) → (fold own_alignment_with (Some y) es ≡ None → ⊥) → (fold own_alignment_with (Some (content_alignment e.content.value)) es ≡ None → ⊥)
        → fold own_alignment_with (if b then Some (content_alignment e.content.value) else Some y) es ≡ None → ⊥
    by true f g h = g h
    by false f g h = f h

-- so where nothing is said, neither the first nor the others say it
absent_by : (e : SheetEntry) (es : List SheetEntry) → fold own_alignment_with None (e ∷ es) ≡ None → (is_word alignment_key e.content.key ≡ false) × (fold own_alignment_with None es ≡ None)
absent_by e es h = by (is_word alignment_key e.content.key) refl h
  where
    by : (b : Bool) → is_word alignment_key e.content.key ≡ b → fold own_alignment_with (if b then Some (content_alignment e.content.value) else None) es ≡ None
        → (is_word alignment_key e.content.key ≡ false) × (fold own_alignment_with None es ≡ None)
    by true i g = absurd (stays-said (content_alignment e.content.value) es g)
    by false i g = (i, g)

pub none_said : (es : List SheetEntry) → own_alignment es ≡ None → All (λ (e : SheetEntry). is_word alignment_key e.content.key ≡ false) es
none_said [] h = tt
none_said (e ∷ es) h = let b = absent_by e es h in (b.0, none_said es b.1)

-- an entry that is added where nothing is said is what a reader finds, wherever it stands
added-said : (a x : ℕ) (es : List SheetEntry) → fold own_alignment_with None es ≡ None → fold latest_content x (inserted a (map entry_in es)) ≡ content_alignment (a_scalar 4 a)
added-said a x [] h = refl
added-said a x (e ∷ es) h = by (before alignment_key e.content.key) (added-said a (latest_content x (entry_in e)) es (absent_by e es h).1)
  where
    by : (b : Bool) → fold latest_content (latest_content x (entry_in e)) (inserted a (map entry_in es)) ≡ content_alignment (a_scalar 4 a)
        → fold latest_content x (if b then alignment_entry a ∷ entry_in e ∷ map entry_in es else entry_in e ∷ inserted a (map entry_in es)) ≡ content_alignment (a_scalar 4 a)
    by true f = all_said (content_alignment (a_scalar 4 a)) None (e ∷ es) ∙ ap (or_else (content_alignment (a_scalar 4 a))) h
    by false f = f

-- an alignment is above 0
pub above_zero : (a : ℕ) → is_alignment_lem a ≡ true → 0 < a
above_zero a e = by (eqb a 0) refl e
  where
    by : (b : Bool) → eqb a 0 ≡ b → (if b then false else eqb (a % 8) 0) ≡ true → 0 < a
    by true i f = let z : ◌≡◌ {A = ℕ} 0 1 = cc in absurd (omega arith)
    by false i f =
        let some : a ≡ 0 → ⊥ = eqb-false a 0 i in
        omega arith

-- an alignment is usable as it is
usable_as_is : (a : ℕ) → is_alignment_lem a ≡ true → usable (Some a) ≡ a
usable_as_is a h = rw h

-- and so is its u32, where it is one
small-said : (a : ℕ) → is_alignment_lem a ≡ true → a ≤ 4294967295 → content_alignment (a_scalar 4 a) ≡ a
small-said a aligned small =
    let less : a < 2 ^ 32 = omega arith in
    let same : a % 2 ^ 32 ≡ a = mod-eq_of_lt less in
    rw same (usable_as_is a aligned)

-- an alignment that is added is a u32
pub added-small : (a : ℕ) (said : Option ℕ) → can_add a said ≡ true → adds a said ≡ true → a ≤ 4294967295
added-small a said can adding = leb-true a 4294967295 (subst (λ b. (if b then leb a 4294967295 else true) ≡ true) adding can)

not-added : (a : ℕ) (said : Option ℕ) → agrees a said ≡ true → adds a said ≡ false → or_else 32 said ≡ a
not-added a (Some y) agreed e = eqb-true y a agreed
not-added a None agreed e = by (eqb a 32) refl e
  where
    by : (b : Bool) → eqb a 32 ≡ b → not b ≡ false → 32 ≡ a
    by true h i = sym (eqb-true a 32 h)
    by false h i = let z : ◌≡◌ {A = ℕ} 0 1 = cc in absurd (omega arith)

pub was_absent : (a : ℕ) (said : Option ℕ) → adds a said ≡ true → said ≡ None
was_absent a (Some y) e = let z : ◌≡◌ {A = ℕ} 0 1 = cc in absurd (omega arith)
was_absent a None e = refl

-- whoever says it, a reader finds the caller's alignment
pub alignment-said : (a : ℕ) (es : List SheetEntry) → is_alignment_lem a ≡ true → can_add a (own_alignment es) ≡ true → agrees a (own_alignment es) ≡ true → alignment_in (entries_of a es) ≡ a
alignment-said a es aligned can agreed = by (adds a (own_alignment es)) refl
  where
    by : (b : Bool) → adds a (own_alignment es) ≡ b → alignment_in (entries_with b a es) ≡ a
    by true e = added-said a 32 es (was_absent a (own_alignment es) e) ∙ small-said a aligned (added-small a (own_alignment es) can e)
    by false e = all_said 32 None es ∙ not-added a (own_alignment es) agreed e
