-- The refusals before the first record, and that each names a place within the bytes. Assumes
-- nothing.
use Prim.Native.Nat.{ℕ, ◌≤◌, ◌<◌}
use mathlib.Core.Path.{◌≡◌, refl}
use mathlib.Core.List.{List, [], ◌∷◌}
use mathlib.Core.Bool.{Bool, true}
use lib.Dec.{leb, eqb}
use lib.ListN.{length}
use borrow.Author.Tests.{leb-false}
use Rattle.reading.specs.Back.{Sure}
use Rattle.reading.specs.Refusals.{is_one_of, OneOf, Refuses}
use Rattle.reading.specs.declared.Limits.{Limits}
use Rattle.reading.proofs.RefusalLaws.{refuses_after, refuses_then, refuses_done, refuses_refuse, refuses_here, refuses_if, refuses_check, refuses_mark, refuses_so}
use Rattle.reading.proofs.SureLaws.{sure_under}
use Rattle.fields.proofs.NumberFields.{refuses_number}
use Rattle.values.specs.Format.{size}
use Rattle.values.specs.declared.Dialect.{Dialect}
use Rattle.values.proofs.ValueRefusals.{refuses_size}
use Rattle.start.specs.Format.{little_magic, big_magic, older_magic, magic, known_dialect, dialect_by, version, counts, start}
use Rattle.start.specs.declared.Rooms.{Rooms}

-- those of what stands before the counts, and of a count that is not there: a magic that is none or
-- an older format's, a version that is none or too new
abbrev pub version_refusals : List ℕ
version_refusals = 1 ∷ 2 ∷ 3 ∷ 4 ∷ 5 ∷ []

missing : {s : List ℕ} (q : ℕ) → q ≤ length s → OneOf version_refusals s 1 q
missing q h = record { listed = refl; inside = h }

module _ {l : Limits} {s : List ℕ} where
  refuses_magic : Refuses l s (OneOf version_refusals s) magic
  unfolding magic
  refuses_magic =
      refuses_here _ (λ p low. refuses_then (refuses_number _ _ missing) (λ m. refuses_if (eqb m little_magic) refuses_done (refuses_if (eqb m big_magic) refuses_done
      (refuses_if (older_magic m) (refuses_refuse (record { listed = refl; inside = low })) (refuses_refuse (record { listed = refl; inside = low }))))))

  refuses_version : (turned : Bool) → Refuses l s (OneOf version_refusals s) (version turned)
  unfolding version
  refuses_version turned =
      refuses_here _ (λ p low. refuses_then (refuses_number _ _ missing) (λ v. refuses_then (refuses_check (known_dialect (dialect_by turned v)) 4 p (λ e. record { listed = refl; inside = low })) (λ u.
      refuses_then (refuses_mark (record { listed = refl; inside = low })) (λ w. refuses_done))))

-- refusal 6 is as P says wherever a count that is read is above its rows
abbrev pub Lacking : List ℕ → (ℕ → ℕ → Type 0) → Rooms → Type 0
Lacking s P rooms = (k : Dialect) (p : ℕ) → Sure s (size k) p (λ n q. (o : ℕ) → o ≤ length s → (rooms.tensors < n → P 6 o) × (rooms.entries < n → P 6 o))

-- the start, with 6 where there are too few rows
module _ {l : Limits} {s : List ℕ} {P : ℕ → ℕ → Type 0} (given : (n q : ℕ) → is_one_of n version_refusals ≡ true → q ≤ length s → P n q) (rooms : Rooms) (lacking : Lacking s P rooms) where
  refuses_counts : (k : Dialect) → Refuses l s P (counts rooms k)
  unfolding counts
  refuses_counts k =
      refuses_here _ (λ p low. refuses_after (refuses_size k (λ q h. given 1 q refl h)) (λ n at o e near. refuses_here _ (λ q there. refuses_after (refuses_size k (λ u h. given 1 u refl h)) (λ m from u f far.
      refuses_then (refuses_check (leb n rooms.tensors) 6 p (λ g. ((sure_under l (lacking k at)).holds n o e p low).0 (leb-false n rooms.tensors g))) (λ v.
      refuses_then (refuses_check (leb m rooms.entries) 6 q (λ g. ((sure_under l (lacking k from)).holds m u f q there).1 (leb-false m rooms.entries g))) (λ w. refuses_done))))))

  pub refuses_start : Refuses l s P (start rooms)
  unfolding start
  refuses_start =
      refuses_then (refuses_so refuses_magic (λ n q h. given n q h.listed h.inside)) (λ turned.
      refuses_then (refuses_so (refuses_version turned) (λ n q h. given n q h.listed h.inside)) refuses_counts)
