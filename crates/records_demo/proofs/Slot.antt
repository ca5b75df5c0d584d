-- A local array, as what is lent as a slice, and back: an array that was written whole is its
-- elements side by side, and elements side by side are an array. Assumes `Logic`.
use mathlib.Core.Path.{refl}
use Prim.Native.Nat.{ℕ}
use mathlib.Core.List.{List, [], ◌∷◌}
use lib.ListN.{length}
use seplogic.Ra.Ura.{Ura}
use base.Fraction.{full_share}
use mir.Syntax.{ty_array}
use mir.Raw.{raw as raw_ty}
use mir.Val.{Val}
use base.Logic.{ent, sep}
use base.Fml.{fsep, fat}
use types.Logic.{Logic, sem}
use types.Kit.{‵, some, given, mean, ◌$◌, ◌∵◌, !, qed, by, move, drop, use1, rewrite, fsplit, fjoin, fpick, fpack, feq_l, feq_i, show, check, done}
use types.SemTy.{cells, Arr}
use types.Share.{arr_parts}
use denote.RattleType.{RattleType}
use denote.Laws.{Is, shows}
use denote.Memory.{mem, lone, part_at, part_of, cell_at, shares}
use denote.Array.{Array, array_val}
use denote.ArrayMemory.{Single, Array-apart, Array-whole}
use denote.Index.{row, whole_in, whole_out}
use denote.Steps.{peeks}

module _ {M : Type 1} {𝓤 : Ura M} (𝓛 : Logic 𝓤) (R : RattleType) where
  open 𝓛 use {H}

  pub slot_in : Single R.mir → (n : ℕ) (xs : List R.Denot) (v : Val) (l : ℕ)
      → ent 𝓤 (sep 𝓤 (H.at full_share (ty_array (lone R.mir) n) l 0 v) (sem 𝓛 ((Array R n).own_val xs (v ∷ [])))) (sem 𝓛 (cells (mem R) xs l 0))
  unfolding part_of
  slot_in one n xs v l =
      qed 𝓛 (‵ (fat full_share (ty_array (lone R.mir) n) l 0 v) ∷ ‵ ((Array R n).own_val xs (v ∷ [])) ∷ []) ∵
      use1 𝓛 (‵ (fat full_share (raw_ty (ty_array (lone R.mir) n)) l 0 v)) (𝓛.laws.at_raw full_share (ty_array (lone R.mir) n) l 0 v) $ fjoin ! $
      fpack ! (List Val) (λ us. fsep (cell_at full_share (Array R n).mir us l 0) ((Array R n).own_val xs us)) (v ∷ []) $
      use1 𝓛 (‵ ((arr_parts (shares R) n).part full_share xs l 0)) (Array-apart 𝓛 R full_share one n xs l 0) $ fsplit ! $ drop ! $ by ! (whole_in 𝓛 R xs l 0)

  pub slot_out : (n : ℕ) (xs : List R.Denot) (l : ℕ)
      → ent 𝓤 (sem 𝓛 ((Arr (mem R) n).own_at xs l 0)) (mean 𝓛 (some (λ (us : List Val). given (Is (Array R n) xs (array_val us ∷ [])) (‵ (fat full_share (ty_array (lone R.mir) n) l 0 (array_val us))))))
  unfolding part_of
  slot_out n xs l =
      qed 𝓛 (‵ ((Arr (mem R) n).own_at xs l 0) ∷ []) ∵ fsplit ! $ feq_l ! (λ same. use1 𝓛 (‵ (row R full_share xs l 0)) (whole_out 𝓛 R xs l 0) $ feq_i ! ℕ (length xs) n same $ fjoin ! $
      use1 𝓛 (‵ (part_at (Array R n) full_share xs l 0)) (Array-whole 𝓛 R full_share n xs l 0) $ fpick ! (λ vs. fsplit ! $ move ! (1 ∷ []) $
      peeks ! (Array R n) (Is (Array R n)) (shows 𝓛 (Array R n)) xs vs (λ is. drop ! $ rewrite ! 0 (λ (us : List Val). ‵ (cell_at full_share (Array R n).mir us l 0)) is.1.0.0 refl $
      use1 𝓛 (‵ (fat full_share (ty_array (lone R.mir) n) l 0 (array_val is.0))) (𝓛.laws.raw_at full_share (ty_array (lone R.mir) n) l 0 (array_val is.0)) $
      show ! (λ (us : List Val). mean 𝓛 (given (Is (Array R n) xs (array_val us ∷ [])) (‵ (fat full_share (ty_array (lone R.mir) n) l 0 (array_val us))))) is.0 $ check ! (is.0, ((refl, is.1.0.1), is.1.1)) $ done !)))
