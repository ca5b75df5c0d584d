-- What is written before the records is read back. Assumes nothing.
use Prim.Native.Nat.{ℕ, ◌≤◌}
use mathlib.Core.Path.{◌≡◌, refl, sym, ap, subst, ◌∙◌}
use mathlib.Core.List.{List, ◌++◌}
use mathlib.Core.Bool.{Bool, true, false}
use native.Mathlib.Omega.{arith}
use borrow.Author.Tests.{le-leb, eqb-true, ne_eqb}
use Rattle.reading.specs.Back.{same, Back}
use Rattle.fields.specs.Bytes.{little, bytes_of, Within}
use Rattle.reading.proofs.BackLaws.{exactly, closes, at_place, nothing_more, marked-then, checked}
use Rattle.fields.proofs.NumberFields.{number-back}
use Rattle.values.specs.Contents.{size_bytes}
use Rattle.values.specs.Format.{size_width}
use Rattle.values.proofs.ValuesBack.{size_back}
use Rattle.start.specs.Format.{little_magic, big_magic, magic, known_dialect, turned_three, dialect_by, version, counts}
use Rattle.start.proofs.StartMarks.{version-small}
use Rattle.start.specs.declared.Rooms.{Rooms}
use Rattle.values.specs.declared.Dialect.{Dialect}

-- a known form is what its version's four bytes say, as a number in the byte order of its magic
record Said (k : Dialect) : Type 0 where
  number : ℕ
  fits : Within 4 number
  bytes : bytes_of k.turned 4 number ≡ bytes_of k.big 4 k.version
  says : dialect_by k.turned number ≡ k

three_said : (v : ℕ) → v ≡ 3 → Said (record { version = v; big = true; turned = false })
unfolding bytes_of little
three_said v e = subst (λ x. Said (record { version = x; big = true; turned = false })) (sym e) (record { number = turned_three; fits = omega arith; bytes = refl; says = refl })

little-said : (v : ℕ) → v ≤ 3 → Said (record { version = v; big = false; turned = false })
little-said v h = record { number = v; fits = omega (arith, h); bytes = refl; says = rw (ne_eqb v turned_three (λ e. omega (arith, h, e))) refl }

said : (k : Dialect) → known_dialect k ≡ true → Said k
said k e = by k.version k.big k.turned e
  where
    by : (v : ℕ) (big turned : Bool) → known_dialect (record { version = v; big = big; turned = turned }) ≡ true → Said (record { version = v; big = big; turned = turned })
    by v true true e = record { number = v; fits = omega (arith, version-small v e); bytes = refl; says = refl }
    by v true false e = three_said v (eqb-true v 3 e)
    by v false true e = let z : ◌≡◌ {A = ℕ} 0 1 = cc in absurd (omega arith)
    by v false false e = little-said v (version-small v e)

module _ {s : List ℕ} where
  pub magic-back : (turned : Bool) (p : ℕ) → Back s same magic p (bytes_of turned 4 little_magic) turned
  unfolding magic bytes_of little
  magic-back false p = at_place _ (closes _ (number-back 4 false little_magic p (omega arith)) (nothing_more refl))
  magic-back true p = at_place _ (closes _ (number-back 4 false big_magic p (omega arith)) (nothing_more refl))

  pub version-back : (k : Dialect) → known_dialect k ≡ true → (p : ℕ) → Back s same (version k.turned) p (bytes_of k.big 4 k.version) k
  unfolding version
  version-back k e p =
      let h = said k e in
      subst (λ l. Back s same (version k.turned) p l k) h.bytes
      (at_place _ (closes _ (number-back 4 k.turned h.number p h.fits) (checked 4 p (ap known_dialect h.says ∙ e) (marked-then _ _ _ _ (nothing_more h.says)))))

  pub counts-back : (rooms : Rooms) (k : Dialect) (n m : ℕ) → Within (size_width k) n → Within (size_width k) m → n ≤ rooms.tensors → m ≤ rooms.entries → (p : ℕ)
      → Back s same (counts rooms k) p (size_bytes k n ++ size_bytes k m) (record { dialect = k; tensors = n; entries = m })
  unfolding counts
  counts-back rooms k n m i j roomy roomy' p =
      at_place _ (exactly _ (size_back k n i p) (at_place _ (closes _ (size_back k m j _)
      (checked 6 p (le-leb n rooms.tensors roomy) (checked 6 _ (le-leb m rooms.entries roomy') (nothing_more refl))))))
