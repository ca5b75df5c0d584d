-- Where the records begin: past the magic, the version and the two counts. Assumes nothing.
use Prim.Native.Nat.{ℕ, ◌+◌}
use mathlib.Core.Path.{◌≡◌, refl, sym, ap, ◌∙◌}
use mathlib.Core.Bool.{Bool, false}
use mathlib.Core.List.{List}
use lib.Dec.{leb, eqb}
use Rattle.reading.specs.Back.{Sure}
use Rattle.reading.specs.Reading.{a_version}
use Rattle.reading.proofs.SureLaws.{sure_then, sure_done, sure_refuse, sure_here, sure_mark, sure_check, sure_if, sure_so}
use Rattle.fields.proofs.NumberFields.{number-told}
use Rattle.values.specs.Format.{size_width, size}
use Rattle.values.specs.declared.Dialect.{Dialect}
use Rattle.start.specs.Format.{little_magic, big_magic, older_magic, magic, known_dialect, dialect_by, version, counts, start}
use Rattle.start.specs.declared.Rooms.{Rooms}

-- the place after the magic, the version and the two counts
abbrev pub begins : Dialect → ℕ
begins k = 8 + size_width k + size_width k

module _ (s : List ℕ) where
  magic-ends : Sure s magic 0 (λ turned q. q ≡ 4)
  unfolding magic
  magic-ends =
      sure_here _ (sure_then (number-told s 4 false 0) (λ m q h.
      sure_if (eqb m little_magic) _ _ (λ e. sure_done h.0) (λ e. sure_if (eqb m big_magic) _ _ (λ f. sure_done h.0)
      (λ f. sure_if (older_magic m) _ _ (λ g. sure_refuse) (λ g. sure_refuse)))))

  version-ends : (turned : Bool) (p : ℕ) → Sure s (version turned) p (λ k q. q ≡ p + 4)
  unfolding version
  version-ends turned p =
      sure_here _ (sure_then (number-told s 4 turned p) (λ v q h.
      sure_check (known_dialect (dialect_by turned v)) 4 p _ (λ e. sure_mark a_version (dialect_by turned v).version p _ (sure_done h.0))))

  size-ends : (k : Dialect) (p : ℕ) → Sure s (size k) p (λ n q. q ≡ p + size_width k)
  unfolding size
  size-ends k p = sure_so (number-told s _ _ p) (λ n q h. h.0)

  pub counts_end : (rooms : Rooms) (k : Dialect) (p : ℕ) → Sure s (counts rooms k) p (λ c q. (c.dialect ≡ k) × (q ≡ p + size_width k + size_width k))
  unfolding counts
  counts_end rooms k p =
      sure_here _ (sure_then (size-ends k p) (λ n q h. sure_here _ (sure_then (size-ends k q) (λ m r g.
      sure_check (leb n rooms.tensors) 6 p _ (λ e. sure_check (leb m rooms.entries) 6 q _ (λ f. sure_done (refl, g ∙ ap (λ x. x + size_width k) h)))))))

  pub start-ends : (rooms : Rooms) → Sure s (start rooms) 0 (λ c q. q ≡ begins c.dialect)
  unfolding start
  start-ends rooms =
      sure_then magic-ends (λ turned q h. sure_then (version-ends turned q) (λ k r g.
      record {
        holds = λ c o e.
            let i = (counts_end rooms k r).holds c o e in
            i.1 ∙ ap (λ x. x + size_width k + size_width k) (g ∙ ap (λ x. x + 4) h) ∙ ap begins (sym i.0);
      }))
