-- A text that is put piece by piece: what is put, and what is still to come. Assumes nothing.
use Prim.Native.Nat.{ℕ, ◌+◌, ◌-◌, ◌≤◌, ◌<◌}
use mathlib.Core.Path.{◌≡◌, refl, sym, ap, ◌∙◌}
use mathlib.Core.List.{List, [], ◌∷◌, ◌++◌, append_assoc, append-nil}
use native.Mathlib.Numerals.{add-one}
use lib.ListN.{length, drop, get_or, drop_of_length-le}
use lib.Seq.{drop-cons}
use Rattle.reading.specs.Back.{bytes_of_all}
use borrow.Rule.Slice.PartMut.{mid_of, put_mid}
use Rattle.text_out.specs.Put.{Put}
use Rattle.text_out.proofs.Put.{put-chain, put-none, put_same}

-- of the whole text, all but the rest is put, as far as there was room
pub record Writing (whole rest old out : List ℕ) (n : ℕ) : Type 0 where
  pub piece : List ℕ
  pub put : Put piece old out n
  pub left : piece ++ rest ≡ whole

pub writing_starts : (whole out : List ℕ) → Writing whole whole out out 0
writing_starts whole out = record { piece = []; put = put-none out; left = refl }

pub writing_turns : {whole rest more e old out ys : List ℕ} {n k : ℕ} → Writing whole rest old out n → rest ≡ e ++ more → Put e (mid_of n (length out - n) out) ys k
    → Writing whole more old (put_mid n (length out - n) out ys) (n + k)
writing_turns {more = more} {e} w s p =
    record { piece = w.piece ++ e; put = put-chain w.put p; left = append_assoc w.piece e more ∙ ap (λ r. w.piece ++ r) (sym s) ∙ w.left }

pub writing_ends : {whole rest old out : List ℕ} {n : ℕ} → Writing whole rest old out n → rest ≡ [] → Put whole old out n
writing_ends w s = put_same (sym (append-nil w.piece) ∙ ap (λ r. w.piece ++ r) (sym s) ∙ w.left) w.put

-- lines in a row: the next one, and those after it
pub one_line : {l more : List (List ℕ)} {row : List ℕ} (line : List ℕ → List ℕ) → l ≡ row ∷ more → bytes_of_all line l ≡ line row ++ bytes_of_all line more
unfolding bytes_of_all
one_line line e = rw e refl

pub no_lines : {l : List (List ℕ)} (line : List ℕ → List ℕ) → l ≡ [] → bytes_of_all line l ≡ []
unfolding bytes_of_all
no_lines line e = rw e refl

-- a row of a table more, and no row more
pub rows-turn : (line : List ℕ → List ℕ) (l : List (List ℕ)) (i : ℕ) → i < length l → bytes_of_all line (drop i l) ≡ line (get_or l i []) ++ bytes_of_all line (drop (i + 1) l)
rows-turn line l i h = one_line line (drop-cons l i [] h ∙ ap (λ k. get_or l i [] ∷ drop k l) (sym (add-one i)))

pub rows_end : (line : List ℕ → List ℕ) (l : List (List ℕ)) (i : ℕ) → length l ≤ i → bytes_of_all line (drop i l) ≡ []
rows_end line l i h = no_lines line (drop_of_length-le l {i = i} h)
