-- The question for a tensor, against the whole reader: three ways that both go. Assumes nothing.
use Prim.Native.Nat.{ℕ, ◌≤◌}
use mathlib.Core.Path.{◌≡◌, refl, sym, ap, ◌∙◌}
use mathlib.Core.Bool.{false}
use mathlib.Core.List.{List, [], ◌∷◌, ◌++◌}
use native.Mathlib.Omega.{arith}
use lib.ListN.{length}
use Rattle.reading.specs.Back.{All}
use Rattle.reading.specs.Ceilings.{Low, full}
use Rattle.reading.specs.Each.{each, times, fold}
use Rattle.reading.specs.Reading.{Reading, Answer, accepted, refused, run, ◌>>=◌, here, and_then, seen, passed}
use Rattle.reading.specs.Refusals.{OneOf, Refuses}
use Rattle.reading.proofs.CeilingLaws.{low_run, low-each}
use Rattle.reading.proofs.RefusalLaws.{listed_too, refuses_too}
use Rattle.reading.proofs.Repetition.{times-alike}
use Rattle.reading.proofs.RunLaws.{run_bind, goes_on, stops, inside}
use Rattle.reading.proofs.Views.{bind_same}
use Rattle.values.specs.Format.{key, value, entry}
use Rattle.values.specs.declared.Dialect.{Dialect}
use Rattle.values.specs.declared.Entry.{Entry}
use Rattle.values.proofs.ValueMarks.{low-entry}
use Rattle.values.proofs.ValueRefusals.{entry_refusals, refuses_entries}
use Rattle.tensors.specs.Format.{tensor, total_of}
use Rattle.tensors.specs.declared.Tensor.{Tensor}
use Rattle.tensors.proofs.TensorMarks.{low-tensor}
use Rattle.tensors.proofs.TensorRefusals.{tensor_refusals, refuses_tensors}
use Rattle.start.specs.Format.{start, enough}
use Rattle.start.specs.declared.Start.{Start}
use Rattle.start.proofs.StartMarks.{low-start}
use Rattle.start.proofs.StartRefusals.{version_refusals, refuses_start}
use Rattle.header.specs.Format.{FullHeader, judged, header}
use Rattle.lookup.specs.Search.{Search, found, none, seek}
use Rattle.lookup.specs.Tensors.{looked_tensor, first_tensor, has_name, FirstOfName}
use Rattle.lookup.proofs.LookedTensor.{looked-tensor}
use Rattle.lookup.proofs.SeekLaws.{Says, says}

-- entries end at the same place, or are refused the same, with any two caps
entry-passed : (k : Dialect) (cap cap' : ℕ) (s : List ℕ) (p : ℕ) → passed (run (entry k cap) s p) ≡ passed (run (entry k cap') s p)
unfolding entry run seen
entry-passed k cap cap' s p =
    bind_same (λ e. tt {0}) (key k) s p _ _ (λ x q. bind_same (λ e. tt {0}) (value k) s q _ _ (λ v o. refl))

entries-passed : (k : Dialect) (cap cap' n : ℕ) (s : List ℕ) (p : ℕ) → passed (run (times n (entry k cap)) s p) ≡ passed (run (times n (entry k cap')) s p)
entries-passed k cap cap' n s p = times-alike (entry k cap) (entry k cap') s (entry-passed k cap cap' s) n p

-- the refusals before a header's last tests
abbrev pub record_refusals : List ℕ
record_refusals = 1 ∷ 2 ∷ 3 ∷ 4 ∷ 5 ∷ 6 ∷ 7 ∷ 8 ∷ 9 ∷ 10 ∷ 11 ∷ 12 ∷ 13 ∷ 14 ∷ 15 ∷ 17 ∷ []

module _ (s : List ℕ) where
  -- a refusal of a step that the full ceilings don't change
  listed : {A : Type 0} {m : Reading A} → Low full m → Refuses full s (OneOf record_refusals s) m → (p : ℕ) → p ≤ length s → {n q : ℕ} → refused n q ≡ run m s p → OneOf record_refusals s n q
  listed {m = m} low h p near {n} {q} e = h.refusal p near n q (e ∙ sym (low_run full m low s p))

  start-listed : {n q : ℕ} → refused n q ≡ run (start enough) s 0 → OneOf record_refusals s n q
  start-listed e =
      listed (low-start full (omega arith) enough)
      (refuses_start (λ n q h low. record { listed = listed_too n version_refusals record_refusals refl h; inside = low }) enough
      (λ k p. record { holds = λ n q e o low. (λ f. record { listed = refl; inside = low }, λ f. record { listed = refl; inside = low }) })) 0 (omega arith) e

  entries-listed : (k : Dialect) (cap n p : ℕ) → p ≤ length s → {m q : ℕ} → refused m q ≡ run (times n (entry k cap)) s p → OneOf record_refusals s m q
  entries-listed k cap n = listed (low-each full _ _ (λ z. low-entry full k cap) n tt) (refuses_too entry_refusals record_refusals refl (refuses_entries k cap n))

  tensors-listed : (k : Dialect) (n p : ℕ) → p ≤ length s → {m q : ℕ} → refused m q ≡ run (each (tensor k) total_of n 0) s p → OneOf record_refusals s m q
  tensors-listed k n = listed (low-each full _ _ (low-tensor full (omega arith) k) n 0) (refuses_too tensor_refusals record_refusals refl (refuses_tensors k n))

module _ (name s : List ℕ) (cap : ℕ) where
  -- what the question comes to, and what the whole reader does
  abbrev pub asked : Answer (Search Tensor)
  asked = run (first_tensor name) s 0

  abbrev pub whole : Answer FullHeader
  whole = run (header enough cap) s 0

  -- none of all tensors has the name, and the whole reader has only its last tests to do
  pub record NoneOfName (n q : ℕ) : Type 0 where
    pub c : Start
    pub es : List Entry
    pub ts : List Tensor
    pub number : n ≡ length ts
    pub counted : length ts ≡ c.tensors
    pub others : All (λ (u : Tensor). has_name name s u ≡ false) ts
    pub after : whole ≡ run (judged c es ts q) s q

  -- both are refused before the last tests; or the first of the name is found; or there is none
  pub data Both : Type 0 where
    refused_both : (n p : ℕ) → asked ≡ refused n p → whole ≡ refused n p → OneOf record_refusals s n p → Both
    found_at_first : (t : Tensor) (n q : ℕ) → asked ≡ accepted (found t n) q → FirstOfName name s cap t n → Both
    found_none : (n q : ℕ) → asked ≡ accepted (none n) q → NoneOfName n q → Both

  -- after the start
  module _ {c : Start} {p : ℕ} (started : accepted c p ≡ run (start enough) s 0) where
    -- after the entries, which the question reads with its own cap
    module _ {es es' : List Entry} {q : ℕ} (entries : accepted es q ≡ run (times c.entries (entry c.dialect cap)) s p) (passed : accepted es' q ≡ run (times c.entries (entry c.dialect 3)) s p) where
      -- what is left of both
      abbrev sought : Answer (Search Tensor)
      sought = run (seek (looked_tensor name c.dialect) total_of c.tensors 0 0) s q

      abbrev tensors_from : ℕ → Answer (List Tensor)
      tensors_from n = run (each (tensor c.dialect) total_of n 0) s q

      ask : asked ≡ sought
      unfolding first_tensor
      ask = goes_on (start enough) _ s 0 started ∙ goes_on (times c.entries (entry c.dialect 3)) _ s p passed

      go : whole ≡ and_then (tensors_from c.tensors) (λ ts o. run (here >>= judged c es ts) s o)
      unfolding header
      go =
          goes_on (start enough) _ s 0 started ∙ goes_on (times c.entries (entry c.dialect cap)) _ s p entries
          ∙ run_bind (each (tensor c.dialect) total_of c.tensors 0) _ s q

      -- the tensors that follow some
      more-then : (ts : List Tensor) (r : Answer (List Tensor))
          → and_then (and_then r (λ more o. accepted (ts ++ more) o)) (λ l o. run (here >>= judged c es l) s o) ≡ and_then r (λ more o. run (here >>= judged c es (ts ++ more)) s o)
      unfolding and_then
      more-then ts (accepted more o) = refl
      more-then ts (refused n o) = refl

      by_search : (r : Answer (Search Tensor)) → r ≡ sought → Says (tensor c.dialect) (looked_tensor name c.dialect) total_of s (has_name name s) c.tensors 0 0 q r → Both
      unfolding and_then here run
      by_search (accepted (found t n) e) r h =
          found_at_first t n e (ask ∙ sym r) (record {
            c = c;
            p = p;
            started = started;
            es = es;
            q = q;
            entries = entries;
            before = h.before;
            end = e;
            tensors = h.read ∙ ap tensors_from (omega (arith, h.number));
            number = omega (arith, h.number);
            others = h.others;
            has = h.asked;
            left = h.left;
            counted = omega (arith, h.number, h.counted);
            after =
                go ∙ ap (λ x. and_then x (λ ts o. run (here >>= judged c es ts) s o)) h.after
                ∙ more-then (h.before ++ (t ∷ [])) (run (each (tensor c.dialect) total_of h.left (fold total_of 0 (h.before ++ (t ∷ [])))) s e)
                ∙ sym (run_bind (each (tensor c.dialect) total_of h.left (fold total_of 0 (h.before ++ (t ∷ [])))) _ s e);
          })
      by_search (accepted (none n) e) r h =
          found_none n e (ask ∙ sym r) (record {
            c = c;
            es = es;
            ts = h.all;
            number = omega (arith, h.number);
            counted = h.counted;
            others = h.others;
            after = go ∙ ap (λ x. and_then x (λ ts o. run (here >>= judged c es ts) s o)) (sym h.read) ∙ run_bind here _ s e;
          })
      by_search (refused n o) r h = refused_both n o (ask ∙ sym r) (go ∙ ap (λ x. and_then x (λ ts o. run (here >>= judged c es ts) s o)) (sym h))
          (tensors-listed s c.dialect c.tensors q (omega (arith, inside (start enough) s 0 started, inside (times c.entries (entry c.dialect cap)) s p entries)) h)

      tensors-both : Both
      tensors-both = by_search sought refl (says (tensor c.dialect) (looked_tensor name c.dialect) total_of s (has_name name s) (λ z o. looked-tensor name c.dialect z s o) c.tensors 0 0 q)

    entries_by : (r r' : Answer (List Entry)) → r ≡ run (times c.entries (entry c.dialect cap)) s p → r' ≡ run (times c.entries (entry c.dialect 3)) s p → passed r ≡ passed r' → Both
    unfolding seen first_tensor header
    entries_by (accepted es q) (accepted es' q') e f same =
        let i : q' ≡ q = cc in
        tensors-both e (ap (accepted es') (sym i) ∙ f)
    entries_by (accepted es q) (refused n o) e f same = let z : ◌≡◌ {A = ℕ} 0 1 = cc in absurd (omega arith)
    entries_by (refused n o) (accepted es q) e f same = let z : ◌≡◌ {A = ℕ} 0 1 = cc in absurd (omega arith)
    entries_by (refused n o) (refused n' o') e f same =
        let i : ◌≡◌ {A = Answer (List Entry)} (refused n o) (refused n' o') = cc in
        refused_both n o (goes_on (start enough) _ s 0 started ∙ stops (times c.entries (entry c.dialect 3)) _ s p (i ∙ f)) (goes_on (start enough) _ s 0 started ∙ stops (times c.entries (entry c.dialect cap)) _ s p e)
        (entries-listed s c.dialect cap c.entries p (omega (arith, inside (start enough) s 0 started)) e)

  start-by : (r : Answer Start) → r ≡ run (start enough) s 0 → Both
  unfolding first_tensor header
  start-by (accepted c p) e = entries_by e _ _ refl refl (entries-passed c.dialect cap 3 c.entries s p)
  start-by (refused n p) e = refused_both n p (stops (start enough) _ s 0 e) (stops (start enough) _ s 0 e) (start-listed s e)

  -- whatever the bytes, the name and the whole reader's cap
  pub both : Both
  both = start-by _ refl
