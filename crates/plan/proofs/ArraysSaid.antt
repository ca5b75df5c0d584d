-- What an array of a sheet says in a header, by what its items are: arrays at one depth less, or
-- what is no array. Assumes nothing.
use Prim.Native.Nat.{ℕ, suc, ◌+◌, ◌-◌}
use mathlib.Core.Path.{◌≡◌, refl, sym, ap, ◌∙◌}
use mathlib.Core.Bool.{true}
use mathlib.Core.List.{List, ◌++◌}
use lib.ListN.{length, length-append}
use Rattle.reading.specs.Back.{got, bytes_of_all}
use Rattle.reading.specs.Each.{times}
use Rattle.reading.specs.Reading.{Reading, Answer, accepted, refused, run, and_then, seen, is_accepted}
use Rattle.fields.specs.Value.{number}
use Rattle.reading.proofs.Repetition.{seen-accepted}
use Rattle.reading.proofs.RunLaws.{not_there}
use Rattle.reading.proofs.SureLaws.{sure_each, whatever}
use Rattle.values.specs.declared.Dialect.{Dialect}
use Rattle.values.specs.Contents.{Content, an_array, type_bytes, size_bytes, value_bytes}
use Rattle.values.specs.Format.{size_width}
use Rattle.sheet.specs.Format.{array, item}
use Rattle.sheet.specs.Steps.{step_of}
use Rattle.sheet.proofs.SheetArrays.{array_untyped, array_uncounted, array-items, array_deep, array-fits, plain_type, items-plain, items-arrays}
use Rattle.plan.specs.Steps.{content_read}
use Rattle.plan.proofs.PartLengths.{type-length, size-length}

-- an array at p, of n items of the type t, which m reads from q on and enc writes
pub record ArraySaid {A : Type 0} (m : Reading A) (enc : A → List ℕ) (d : ℕ) (k : Dialect) (s : List ℕ) (p t n q : ℕ) : Type 0 where
  pub there : is_accepted (run (times n m) s q) ≡ true
  pub bytes : type_bytes k t ++ size_bytes k n ++ bytes_of_all enc (got (run (times n m) s q)) ≡ value_bytes (suc d) k (content_read (run (array d (item d)) s p))
  pub size : length (value_bytes (suc d) k (content_read (run (array d (item d)) s p))) ≡ 4 + size_width k + length (bytes_of_all enc (got (run (times n m) s q)))
  pub ends : step_of (run (times n m) s q) ≡ step_of (run (array d (item d)) s p)

module _ (d : ℕ) (s : List ℕ) (p : ℕ) (there : is_accepted (run (array d (item d)) s p) ≡ true) where
  -- it has an item type and a count
  pub no_type : {n o : ℕ} → refused n o ≡ run (number 1 true) s p → ⊥
  no_type e = not_there (array_untyped s p d (array_deep s p d there) e) there

  module _ {t o : ℕ} (typed : accepted t o ≡ run (number 1 true) s p) where
    pub no_count : {n u : ℕ} → refused n u ≡ run (number 4 true) s o → ⊥
    no_count e = not_there (array_uncounted s p typed d (array_deep s p d there) (array-fits s p d there typed) e) there

    module _ (k : Dialect) {n q : ℕ} (counted : accepted n q ≡ run (number 4 true) s o) where
      whole : run (array d (item d)) s p ≡ and_then (run (times n (item d t)) s q) (λ l u. accepted (an_array t l) u)
      whole = array-items s p typed d (array_deep s p d there) (array-fits s p d there typed) counted

      -- what m reads and enc writes is what the items say
      module _ {A : Type 0} (m : Reading A) (enc : A → List ℕ) where
        said-bytes : {l : List (Content d)} {u : ℕ} → accepted l u ≡ run (times n (item d t)) s q → run (array d (item d)) s p ≡ accepted (an_array t l) u
            → {a : List A} → accepted a u ≡ run (times n m) s q → bytes_of_all (value_bytes d k) l ≡ bytes_of_all enc a
            → type_bytes k t ++ size_bytes k n ++ bytes_of_all enc (got (run (times n m) s q)) ≡ value_bytes (suc d) k (content_read (run (array d (item d)) s p))
        unfolding value_bytes
        said-bytes {l} {u} e i f same =
            let c : length l ≡ n = ((sure_each {P = λ z a. Unit {0}} _ _ (λ z o. whatever) n tt q).holds l u e).0 in
            rw (i, ← f, c, same) refl

        said-by : (x : Answer (List (Content d))) → x ≡ run (times n (item d t)) s q → run (array d (item d)) s p ≡ and_then x (λ l u. accepted (an_array t l) u)
            → seen (bytes_of_all (value_bytes d k)) x ≡ seen (bytes_of_all enc) (run (times n m) s q) → ArraySaid m enc d k s p t n q
        unfolding and_then seen
        said-by (accepted l u) e i same =
            let r = seen-accepted (bytes_of_all enc) (times n m) s q same in
            let b = said-bytes e i r.1 r.2 in
            record {
              there = ap is_accepted (sym r.1);
              bytes = b;
              size = ap length (sym b) ∙ rw (length-append, length-append, type-length k t, size-length k n);
              ends = ap step_of (sym r.1) ∙ sym (ap step_of i);
            }
        said-by (refused w u) e i same = absurd (not_there i there)

      -- any items, items that are arrays, and items that are none
      pub of_items : ArraySaid (item d t) (value_bytes d k) d k s p t n q
      of_items = said-by (item d t) (value_bytes d k) (run (times n (item d t)) s q) refl whole refl

      pub of_arrays : t ≡ 9 → ArraySaid (array (d - 1) (item (d - 1))) (value_bytes (suc (d - 1)) k) d k s p t n q
      of_arrays nine =
          said-by (array (d - 1) (item (d - 1))) (value_bytes (suc (d - 1)) k) (run (times n (item d t)) s q) refl whole (rw nine (items-arrays k s d n q (array_deep s p d there)))

      pub of_plain : (t ≡ 9 → ⊥) → ArraySaid (item 1 t) (value_bytes 1 k) d k s p t n q
      of_plain other =
          said-by (item 1 t) (value_bytes 1 k) (run (times n (item d t)) s q) refl whole
          (items-plain k s d t n q (array_deep s p d there) (plain_type (d - 1) t (array-fits s p d there typed) other) other)
