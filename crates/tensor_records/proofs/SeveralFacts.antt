-- Several facts that a contract promises one by one: shown, and used. Assumes nothing.
use mathlib.Core.List.{List}
use seplogic.Ra.Ura.{Ura}
use base.Logic.{SProp, ent, sep, emp, via, fst∗, snd∗, mono∗, mono_l, emp∗, comm∗}
use types.Logic.{Logic}
use contract.Monad.{fact, fact_i, fact_use}
use types.Kit.{Item, Step, step, prop}

module _ {M : Type 1} (𝓤 : Ura M) where
  -- one more fact
  pub and : {Q : SProp 𝓤} (φ : Type 0) → φ → ent 𝓤 (emp 𝓤) Q → ent 𝓤 (emp 𝓤) (sep 𝓤 (fact 𝓤 φ) Q)
  and {Q} φ x h = via 𝓤 (sep 𝓤 (emp 𝓤) (emp 𝓤)) (emp∗ 𝓤 (emp 𝓤)) (mono∗ 𝓤 (fact_i 𝓤 φ (emp 𝓤) x) h)

  -- the last one
  pub last : (φ : Type 0) → φ → ent 𝓤 (emp 𝓤) (fact 𝓤 φ)
  last φ x = fact_i 𝓤 φ (emp 𝓤) x

  -- a fact, and what is one, as one
  pub together : {Q : SProp 𝓤} (φ ψ : Type 0) → ent 𝓤 Q (fact 𝓤 ψ) → ent 𝓤 (sep 𝓤 (fact 𝓤 φ) Q) (fact 𝓤 (φ × ψ))
  together {Q} φ ψ h = fact_use 𝓤 φ (fst∗ 𝓤 (fact 𝓤 φ) Q) (λ x. fact_use 𝓤 ψ (via 𝓤 Q (snd∗ 𝓤 (fact 𝓤 φ) Q) h) (λ y. fact_i 𝓤 (φ × ψ) (sep 𝓤 (fact 𝓤 φ) Q) (x, y)))

-- `says` of `denote.Triple.Walked`, of several facts
pub says_all : {M : Type 1} {𝓤 : Ura M} {𝓛 : Logic 𝓤} {K : Type 0} {Γ : List (Item 𝓤)} → K → (P Q : SProp 𝓤) → ent 𝓤 (emp 𝓤) Q → Step K 𝓛 Γ (prop P) Γ (prop (sep 𝓤 P Q))
says_all {𝓤 = 𝓤} t P Q h = step (λ s. record { prf = via 𝓤 P s.prf (via 𝓤 (sep 𝓤 (emp 𝓤) P) (emp∗ 𝓤 P) (via 𝓤 (sep 𝓤 Q P) (mono_l 𝓤 P h) (comm∗ 𝓤 Q P))) })
