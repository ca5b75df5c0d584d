-- A tensor whose name is looked at is a tensor, and whether that is its name. Assumes nothing.
use Prim.Native.Nat.{ℕ, suc}
use mathlib.Core.Path.{◌≡◌, refl, sym, ap, ◌∙◌}
use mathlib.Core.Bool.{Bool}
use mathlib.Core.List.{List}
use native.Mathlib.Omega.{arith}
use lib.ListN.{length, take}
use Rattle.reading.specs.Back.{Sure}
use Rattle.reading.specs.Reading.{done, Answer, accepted, refused, run, ◌>>=◌, here, and_then, seen}
use Rattle.reading.proofs.RunLaws.{run_bind}
use Rattle.reading.proofs.SureLaws.{sure_then, whatever}
use Rattle.values.specs.Contents.{bytes_at}
use Rattle.values.specs.Format.{text, is_word}
use Rattle.values.specs.declared.Dialect.{Dialect}
use Rattle.values.specs.declared.Span.{Span}
use Rattle.values.proofs.Texts.{text-looked, word-told}
use Rattle.tensors.specs.Format.{tensor}
use Rattle.tensors.specs.declared.Tensor.{Tensor}
use Rattle.tensors.proofs.Fitting.{sure_fitting}
use Rattle.lookup.specs.Search.{Looked}
use Rattle.lookup.specs.Tensors.{named, looked_name, looked_tensor, has_name}

module _ (name : List ℕ) (k : Dialect) (total : ℕ) (s : List ℕ) (p : ℕ) where
  -- a tensor, and whether it is the one
  abbrev told : Tensor → Looked Tensor
  told t = record { what = t; asked = has_name name s t }

  -- the tensor of a name has that name
  sure_name : (a : Span) (q : ℕ) → Sure s (named k p total a) q (λ t o. t.name ≡ a)
  sure_name a q = sure_then whatever (λ x r u. sure_then whatever (λ y o v. sure_fitting p total a x y (λ tested. refl)))

  -- what was said of the name is so of the tensor
  said : (a : Span) (b : Bool) → b ≡ is_word name (bytes_at s a) → (q : ℕ) (r : Answer Tensor) → r ≡ run (named k p total a) s q
      → and_then r (λ t o. accepted (record { what = t; asked = b }) o) ≡ seen told r
  unfolding and_then seen
  said a b e q (accepted t o) f =
      let same : b ≡ has_name name s t = e ∙ ap (λ x. is_word name (bytes_at s x)) (sym ((sure_name a q).holds t o f)) in
      ap (λ x. accepted (record { what = t; asked = x }) o) same
  said a b e q (refused n o) f = refl

  -- what follows a name that was looked at
  abbrev rest : Looked Span → ℕ → Answer (Looked Tensor)
  rest x q = run (named k p total x.what >>= (λ t. done (record { what = t; asked = x.asked }))) s q

  by_name : (r : Answer Span)
      → and_then (and_then r (λ a q. accepted (record { what = a; asked = is_word name (take (suc (length name)) (bytes_at s a)) }) q)) rest ≡ seen told (and_then r (λ a q. run (named k p total a) s q))
  unfolding and_then seen run
  by_name (accepted a q) =
      run_bind (named k p total a) _ s q
      ∙ said a (is_word name (take (suc (length name)) (bytes_at s a))) (word-told name (bytes_at s a) (suc (length name)) (omega arith)) q (run (named k p total a) s q) refl
  by_name (refused n o) = refl

  pub looked-tensor : run (looked_tensor name k total) s p ≡ seen told (run (tensor k total) s p)
  unfolding looked_tensor looked_name tensor here run and_then
  looked-tensor =
      run_bind here _ s p ∙ run_bind (looked_name name k) _ s p ∙ ap (λ r. and_then r rest) (text-looked (suc (length name)) _ k s p) ∙ by_name (run (text k) s p)
      ∙ ap (seen told) (sym (run_bind here _ s p ∙ run_bind (text k) _ s p))
