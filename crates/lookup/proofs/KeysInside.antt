-- The key of an entry that was read is inside the bytes, and so is the name of a tensor. Assumes
-- nothing.
use Prim.Native.Nat.{ℕ, ◌+◌, ◌^◌, ◌≤◌}
use mathlib.Core.Path.{◌≡◌}
use mathlib.Core.List.{List}
use lib.Dec.{leb}
use lib.ListN.{length}
use Rattle.reading.specs.Back.{Sure}
use Rattle.reading.specs.Reading.{accepted, run}
use Rattle.reading.proofs.SureLaws.{sure_then, sure_done, sure_here, sure_check, sure_field, whatever}
use Rattle.values.specs.Format.{text_looking, key, entry}
use Rattle.values.specs.declared.Dialect.{Dialect}
use Rattle.values.specs.declared.Span.{Span}
use Rattle.values.specs.declared.Entry.{Entry}
use Rattle.values.proofs.Texts.{text-inside}
use Rattle.tensors.specs.Format.{tensor}
use Rattle.tensors.specs.declared.Tensor.{Tensor}
use Rattle.tensors.proofs.Fitting.{sure_fitting}

-- a text that ends before the bytes do
abbrev Inside : List ℕ → Span → Type 0
Inside s a = a.place + a.len ≤ length s

module _ (k : Dialect) (s : List ℕ) (p : ℕ) where
  sure_key : Sure s (key k) p (λ x q. Inside s x.span)
  unfolding key text_looking
  sure_key = sure_here _ (sure_then whatever (λ n q u. sure_check (leb n (2 ^ 30)) 7 p _ (λ short. sure_here _ (sure_field (λ there. there)))))

  sure_entry : (cap : ℕ) → Sure s (entry k cap) p (λ e q. Inside s e.key)
  unfolding entry
  sure_entry cap = sure_then sure_key (λ x q there. sure_then whatever (λ v r u. sure_done there))

  pub key-inside : (cap : ℕ) {e : Entry} {q : ℕ} → accepted e q ≡ run (entry k cap) s p → Inside s e.key
  key-inside cap {e} {q} r = (sure_entry cap).holds e q r

  sure_name : (total : ℕ) → Sure s (tensor k total) p (λ t q. Inside s t.name)
  unfolding tensor
  sure_name total =
      sure_here _ (sure_then (record { holds = λ a q e. (text-inside k s p e).there }) (λ a q there. sure_then whatever (λ x r u. sure_then whatever (λ y o v.
      sure_fitting p total a x y (λ tested. there)))))

  pub name-inside : (total : ℕ) {t : Tensor} {q : ℕ} → accepted t q ≡ run (tensor k total) s p → Inside s t.name
  name-inside total {t} {q} r = (sure_name total).holds t q r
