-- The turns of loops over a sheet's entries and its tensors, which are all there: what is taken
-- from a room, what is said of the alignment, and what is laid. Assumes nothing.
use Rattle.reading.specs.Replies.{gives, refuses}
use Rattle.std.specs.Prelude.{if◌then◌else◌, Option, Some, None, Ok, Err}
use Prim.Native.Nat.{ℕ, suc, ◌+◌, ◌-◌, ◌*◌, ◌≤◌, ◌<◌}
use mathlib.Core.Path.{◌≡◌, refl, sym, ap, subst, ◌∙◌}
use mathlib.Core.Bool.{true}
use mathlib.Core.List.{List, [], ◌∷◌, ◌++◌, map}
use native.Mathlib.Numerals.{add-one}
use lib.Dec.{leb}
use lib.ListN.{length, length-append}
use borrow.Author.Tests.{leb-true}
use Rattle.reading.specs.Back.{got, Sure, bytes_of_all}
use Rattle.reading.specs.Each.{times, fold}
use Rattle.reading.specs.Reading.{Reading, accepted, run, is_accepted}
use Rattle.reading.proofs.SureLaws.{sure_then, sure_done, sure_check, sure_so, whatever}
use Rattle.reading.proofs.Repetition.{times-ends, times-never, times-accepted, times-got}
use Rattle.layout.specs.declared.Laid.{Laid}
use Rattle.layout.specs.Layout.{Layout, laid_out_from, refused_at, ahead, nothing_laid, place_of, layout_from}
use Rattle.layout.proofs.Places.{layout_end, layout_stops, layout_goes_on}
use Rattle.values.specs.declared.Dialect.{Dialect}
use Rattle.values.specs.Format.{is_word, alignment_key, size_width, depth}
use Rattle.tensors.specs.Format.{lengths, lengths_of}
use Rattle.values.specs.Contents.{value_bytes, entry_bytes, text_bytes, inside_of}
use Rattle.tensors.specs.Contents.{shape_bytes, kind_and_offset_bytes, tensor_bytes}
use Rattle.values.proofs.Texts.{bytes-length}
use Rattle.header.specs.Contents.{content_alignment}
use Rattle.sheet.specs.declared.EntryParts.{EntryParts}
use Rattle.sheet.specs.declared.TensorParts.{TensorParts}
use Rattle.sheet.specs.Format.{value, SheetEntry, metadata, shape, SheetTensor, tensor_body, tensor}
use Rattle.sheet.specs.Sheet.{entry_of, tensor_of}
use Rattle.sheet.proofs.BackFromAnswers.{entry_yes, tensor_no, tensor_yes, next-there}
use Rattle.sheet.proofs.PartsFound.{entry-told, tensor-told, sure_framed}
use Rattle.sheet.proofs.ManyEntries.{key-stands}
use Rattle.plan.specs.Header.{own_alignment_with, entry_in, piece_of, content_at, laid_with, laid_from}
use Rattle.plan.specs.Plan.{laid_of}
use Rattle.plan.specs.Steps.{taken_from, content_read}
use Rattle.plan.proofs.Rooms.{room-turn, room-end}
use Rattle.plan.proofs.PartLengths.{entry_length, stored-length, tensor-eights, rows_none, rows_more}
use Rattle.plan.proofs.ValueLengths.{heard_one}

-- nothing is left, as a loop has it that counts i up to n
pub got-ends : {A : Type 0} (m : Reading A) (s : List ℕ) (at n i : ℕ) → n ≤ i → got (run (times (n - i) m) s at) ≡ []
got-ends m s at n i h = ap got (times-ends m s at n i h)

-- the bytes of the entries from a place on
abbrev pub entries_length : Dialect → ℕ → List ℕ → ℕ → ℕ
entries_length k n s p = length (bytes_of_all (entry_bytes k) (map entry_in (got (run (times n metadata) s p))))

-- those of the tensors, at whatever offsets
abbrev pub tensors_length : Dialect → ℕ → List ℕ → ℕ → ℕ
tensors_length k n s p = length (bytes_of_all (tensor_bytes k) (laid_from 0 nothing_laid (got (run (times n tensor) s p))))

module _ (s : List ℕ) (at n i : ℕ) (below : i < n) (all : is_accepted (run (times (n - i) metadata) s at) ≡ true) where
  pub entry_here : is_accepted (run metadata s at) ≡ true
  entry_here = next-there metadata s at n i below all

  module _ {x : EntryParts} {q : ℕ} (found : Some (x, q) ≡ entry_of (run metadata s at)) where
    abbrev pub line : SheetEntry
    line = (entry_yes (run metadata s at) found).what

    read : accepted line q ≡ run metadata s at
    read = (entry_yes (run metadata s at) found).is

    parts : x ≡ line.parts
    parts = (entry_yes (run metadata s at) found).told

    left : got (run (times (n - i) metadata) s at) ≡ line ∷ got (run (times (n - (i + 1)) metadata) s q)
    left = times-got metadata s at n i below read all

    pub entry-rest : is_accepted (run (times (n - (i + 1)) metadata) s q) ≡ true
    entry-rest = times-accepted metadata s at n i below read all

    pub entry_value : accepted line.content.value q ≡ run (value q x.form) s x.value
    entry_value = subst (λ y. accepted line.content.value q ≡ run (value q y.form) s y.value) (sym parts) (entry-told s at read).value

    key-there : inside_of s x.key ≡ line.content.key
    key-there = ap (λ y. inside_of s y.key) parts ∙ key-stands s at read

    key-length : length line.content.key ≡ x.key.len
    key-length =
        let t = entry-told s at read in
        sym (ap length t.key) ∙ bytes-length s line.parts.key t.there ∙ ap (λ (y : EntryParts). y.key.len) (sym parts)

    pub entry_taken : (k : Dialect) (r : Option ℕ) → taken_from r (entries_length k (n - i) s at)
        ≡ taken_from (taken_from r (size_width k + 4 + x.key.len + length (value_bytes (suc depth) k (content_read (run (value q x.form) s x.value))))) (entries_length k (n - (i + 1)) s q)
    entry_taken k r =
        let e : length (entry_bytes k line.content) ≡ size_width k + 4 + x.key.len + length (value_bytes (suc depth) k (content_read (run (value q x.form) s x.value))) =
        entry_length k line.content
        ∙ ap (λ y. size_width k + 4 + y + length (value_bytes (suc depth) k line.content.value)) key-length
        ∙ ap (λ y. size_width k + 4 + x.key.len + length (value_bytes (suc depth) k y)) (sym (heard_one entry_value)) in
        let size : List SheetEntry → ℕ = λ l. length (bytes_of_all (entry_bytes k) (map entry_in l)) in
        room-turn size metadata s at n i r below all read _ (λ l. rows_more (entry_bytes k) line.content (map entry_in l) ∙ ap (λ y. y + size l) e)

    pub entry-said : (z : Option ℕ) → fold own_alignment_with z (got (run (times (n - i) metadata) s at))
        ≡ fold own_alignment_with (if is_word alignment_key (inside_of s x.key) then Some (content_alignment (content_read (run (value q x.form) s x.value))) else z) (got (run (times (n - (i + 1)) metadata) s q))
    entry-said z = rw (key-there, heard_one entry_value, left)

-- a tensor has no more than four dimensions
few-shape : (s : List ℕ) (p : ℕ) → Sure s shape p (λ x q. x.dimensions ≤ 4)
unfolding shape lengths_of
few-shape s p =
    sure_then whatever (λ n q u. sure_check (leb n 4) 31 0 _ (λ e. sure_then whatever (λ a q u. sure_then whatever (λ b q u. sure_then whatever (λ c q u. sure_then whatever (λ d q u. sure_done (leb-true _ _ e)))))))

few_drawn : (s : List ℕ) (p : ℕ) → Sure s tensor_body p (λ t q. t.parts.shape.dimensions ≤ 4)
unfolding tensor_body
few_drawn s p = sure_then whatever (λ a q u. sure_then whatever (λ k q u. sure_then (few-shape s q) (λ x q h. sure_done h)))

few-tensor : (s : List ℕ) (p : ℕ) → Sure s tensor p (λ t q. t.parts.shape.dimensions ≤ 4)
unfolding tensor
few-tensor s p = sure_so (sure_framed s 2 (λ e. tensor_body) p) (λ t q h. (few_drawn s (p + 5)).holds t q h.1)

-- a tensor's offset does not change how many bytes it has
any_offset : (k : Dialect) (t : SheetTensor) (o o' : ℕ) → length (tensor_bytes k (content_at t o)) ≡ length (tensor_bytes k (content_at t o'))
unfolding tensor_bytes
any_offset k t o o' =
    length-append (text_bytes k t.name ++ shape_bytes k t.parts.shape) (kind_and_offset_bytes k t.parts.kind o)
    ∙ ap (λ y. length (text_bytes k t.name ++ shape_bytes k t.parts.shape) + y) (stored-length k t.parts.kind o ∙ sym (stored-length k t.parts.kind o'))
    ∙ sym (length-append (text_bytes k t.name ++ shape_bytes k t.parts.shape) (kind_and_offset_bytes k t.parts.kind o'))

any_offsets : (k : Dialect) (a b : ℕ) (l l' : Laid) (ts : List SheetTensor) → length (bytes_of_all (tensor_bytes k) (laid_from a l ts)) ≡ length (bytes_of_all (tensor_bytes k) (laid_from b l' ts))
any_offsets k a b l l' [] = refl
any_offsets k a b l l' (t ∷ ts) =
    rows_more (tensor_bytes k) (content_at t l.next) _
    ∙ (let e = any_offset k t l.next l'.next in let h = any_offsets k a b (laid_with a l t) (laid_with b l' t) ts in rw (e, h))
    ∙ sym (rows_more (tensor_bytes k) (content_at t l'.next) _)

-- what is ahead of a layout does not change whether it is one
pub laid-ahead : (o : ℕ) (y : Layout) → laid_of (ahead o y) ≡ laid_of y
laid-ahead o (laid_out_from offsets laid) = refl
laid-ahead o (refused_at why i) = refl

module _ (s : List ℕ) (at n i : ℕ) (below : i < n) (all : is_accepted (run (times (n - i) tensor) s at) ≡ true) where
  pub tensor-never : None ≡ tensor_of (run tensor s at) → ⊥
  tensor-never e = times-never tensor s at n i below (tensor_no (run tensor s at) e).is all

  module _ {x : TensorParts} {q : ℕ} (found : Some (x, q) ≡ tensor_of (run tensor s at)) where
    abbrev pub one : SheetTensor
    one = (tensor_yes (run tensor s at) found).what

    one-read : accepted one q ≡ run tensor s at
    one-read = (tensor_yes (run tensor s at) found).is

    one-parts : x ≡ one.parts
    one-parts = (tensor_yes (run tensor s at) found).told

    ones_left : got (run (times (n - i) tensor) s at) ≡ one ∷ got (run (times (n - (i + 1)) tensor) s q)
    ones_left = times-got tensor s at n i below one-read all

    pub tensor-rest : is_accepted (run (times (n - (i + 1)) tensor) s q) ≡ true
    tensor-rest = times-accepted tensor s at n i below one-read all

    pub tensor-few : x.shape.dimensions ≤ 4
    tensor-few = subst (λ (y : TensorParts). y.shape.dimensions ≤ 4) (sym one-parts) ((few-tensor s at).holds one q one-read)

    name-length : length one.name ≡ x.name.len
    name-length =
        let t = tensor-told s at one-read in
        sym (ap length t.name) ∙ bytes-length s one.parts.name t.there ∙ ap (λ (y : TensorParts). y.name.len) (sym one-parts)

    one-length : (k : Dialect) → length (tensor_bytes k (content_at one 0)) ≡ size_width k + 16 + 8 * x.shape.dimensions + x.name.len
    one-length k =
        tensor-eights k (content_at one 0) ((few-tensor s at).holds one q one-read)
        ∙ ap (λ y. size_width k + 16 + 8 * one.parts.shape.dimensions + y) name-length
        ∙ ap (λ (y : TensorParts). size_width k + 16 + 8 * y.shape.dimensions + x.name.len) (sym one-parts)

    pub tensor_taken : (k : Dialect) (r : Option ℕ) → taken_from r (tensors_length k (n - i) s at)
        ≡ taken_from (taken_from r (size_width k + 16 + 8 * x.shape.dimensions + x.name.len)) (tensors_length k (n - (i + 1)) s q)
    tensor_taken k r =
        let size : List SheetTensor → ℕ = λ l. length (bytes_of_all (tensor_bytes k) (laid_from 0 nothing_laid l)) in
        room-turn size tensor s at n i r below all one-read _ (λ l. rows_more (tensor_bytes k) (content_at one 0) _ ∙ rw (one-length k, any_offsets k 0 0 (laid_with 0 nothing_laid one) nothing_laid l))

    module _ (a : ℕ) (laid : Laid) where
      pub laid-stops : {w : ℕ} → place_of a laid (lengths x.shape) x.kind ≡ Err w → laid_of (layout_from a laid i (map piece_of (got (run (times (n - i) tensor) s at)))) ≡ refuses w i
      laid-stops e = rw (ones_left, layout_stops a laid i (piece_of one) _ (rw one-parts at e))

      pub laid_goes_on : {o z : ℕ} {after : Laid} → place_of a laid (lengths x.shape) x.kind ≡ Ok (record { offset = o; size = z; laid = after })
          → laid_of (layout_from a laid i (map piece_of (got (run (times (n - i) tensor) s at)))) ≡ laid_of (layout_from a after (i + 1) (map piece_of (got (run (times (n - (i + 1)) tensor) s q))))
      laid_goes_on {o} {z} {after} e =
          let rest = map piece_of (got (run (times (n - (i + 1)) tensor) s q)) in
          ap (λ l. laid_of (layout_from a laid i (map piece_of l))) ones_left
          ∙ ap laid_of (layout_goes_on a laid i (piece_of one) rest (rw one-parts at e))
          ∙ laid-ahead o (layout_from a after (suc i) rest)
          ∙ ap (λ j. laid_of (layout_from a after j rest)) (sym (add-one i))

pub laid-ends : (a : ℕ) (laid : Laid) (s : List ℕ) (at n i : ℕ) → n ≤ i → laid_of (layout_from a laid i (map piece_of (got (run (times (n - i) tensor) s at)))) ≡ gives tt
laid-ends a laid s at n i h = rw (got-ends tensor s at n i h, layout_end a laid i)

-- where nothing is left, nothing more is taken
module _ (k : Dialect) (r : Option ℕ) (s : List ℕ) (at n i : ℕ) (done : n ≤ i) where
  pub entries-ends : taken_from r (entries_length k (n - i) s at) ≡ r
  entries-ends = room-end (λ l. length (bytes_of_all (entry_bytes k) (map entry_in l))) metadata s at n i r (rows_none (entry_bytes k)) done

  pub tensors-ends : taken_from r (tensors_length k (n - i) s at) ≡ r
  tensors-ends = room-end (λ l. length (bytes_of_all (tensor_bytes k) (laid_from 0 nothing_laid l))) tensor s at n i r (rows_none (tensor_bytes k)) done

-- whatever the offsets are
pub tensors-told : (k : Dialect) (a : ℕ) (laid : Laid) (s : List ℕ) (at n : ℕ) → length (bytes_of_all (tensor_bytes k) (laid_from a laid (got (run (times n tensor) s at)))) ≡ tensors_length k n s at
tensors-told k a laid s at n = any_offsets k a 0 laid nothing_laid (got (run (times n tensor) s at))
