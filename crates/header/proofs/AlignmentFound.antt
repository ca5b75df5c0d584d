-- The alignment that contents say is the one that a reader finds. Assumes nothing.
use Prim.Native.Nat.{ℕ, suc, ◌^◌, ◌≤◌, ◌<◌}
use mathlib.Core.Path.{◌≡◌, refl, sym, ap, ◌∙◌}
use mathlib.Core.List.{List, [], ◌∷◌, map}
use mathlib.Core.Bool.{Bool}
use native.Mathlib.Omega.{arith}
use lib.Dec.{eqb, ltb}
use borrow.Author.Tests.{ltb-true}
use Rattle.reading.specs.Back.{All, Sure}
use Rattle.reading.specs.Each.{times, fold}
use Rattle.reading.specs.Reading.{Reading}
use Rattle.reading.proofs.SureLaws.{sure_then, sure_done, sure_here, sure_if, sure_each, sure_so, whatever}
use Rattle.values.specs.Contents.{Content, a_scalar, a_text, an_array, EntryContent, FlaggedEntry, flagged_entry, value_content, entry_content, flagged_entry_of}
use Rattle.values.specs.Format.{value, is_word, alignment_key, value_of, array, depth, keeping, entry}
use Rattle.scalars.specs.Scalars.{scalar_width, scalar_of, natural_of}
use Rattle.values.proofs.ValuesBack.{kept-said}
use Rattle.scalars.proofs.Types.{width_known, scalar-typed}
use Rattle.header.specs.Contents.{content_alignment, latest_content, alignment_in}
use Rattle.kinds.specs.Shape.{greatest}
use Rattle.layout.specs.Padding.{padded}
use Rattle.header.specs.Format.{alignment_of, latest}
use Rattle.header.proofs.DataStart.{Alignment, usable-alignment, thirty_two, kept-alignment, latest-alignment, start_small}
use Rattle.scalars.proofs.Integers.{natural_small}
use Rattle.values.specs.declared.Dialect.{Dialect}
use Rattle.values.specs.declared.Span.{Span}
use Rattle.values.specs.declared.ArraySpan.{ArraySpan}
use Rattle.values.specs.declared.Entry.{Entry}
use Rattle.values.specs.declared.Value.{Value}
use Rattle.values.specs.declared.Value.TheVariants.{Single, Text, Array}
use Rattle.scalars.proofs.Bits.{scalar-again}

module _ (k : Dialect) (s : List ℕ) where
  -- a value gives the alignment that is said of it
  abbrev pub Says : Value → Type 0
  Says v = alignment_of v ≡ content_alignment (value_content (suc depth) k s v)

  text_says : (a : Span) → Says (Text a)
  unfolding value_content
  text_says a = refl

  array-says : (a : ArraySpan) → Says (Array a)
  unfolding value_content
  array-says a = refl

  scalar-says : (t n : ℕ) → 0 < scalar_width t → Says (Single (scalar_of t n))
  unfolding value_content
  scalar-says t n wide =
      let i : t ≤ 12 = width_known t wide in
      rw (scalar-typed t n i wide, scalar-again t n i wide)

  kept-says : (tokens : Bool) (cap : ℕ) (v : Value) → Says v → Says (keeping tokens cap v)
  kept-says tokens cap v h = kept-alignment tokens cap v ∙ h ∙ ap content_alignment (sym (kept-said (suc depth) k s tokens cap v))

  sure_value-says : (arrays : ℕ → Reading ArraySpan) (o t p : ℕ) → Sure s (value_of arrays k o t) p (λ v q. Says v)
  unfolding value_of
  sure_value-says arrays o t p =
      sure_if (ltb 0 (scalar_width t)) _ _ (λ e. sure_then whatever (λ n q u. sure_done (scalar-says t n (ltb-true _ _ e))))
      (λ e. sure_if (eqb t 8) _ _ (λ f. sure_then whatever (λ a q u. sure_done (text_says a))) (λ f. sure_then whatever (λ a q u. sure_done (array-says a))))

  sure_says : (cap p : ℕ) → Sure s (entry k cap) p (λ e q. Says e.value)
  unfolding entry value
  sure_says cap p =
      sure_then whatever (λ x q u. sure_then (sure_here _ (sure_then whatever (λ t r v. sure_value-says (array depth k) q t r))) (λ v r h. sure_done (kept-says x.is_tokenizer cap v h)))

  -- so do the entries that are read
  pub sure_entries_say : (cap n p : ℕ) → Sure s (times n (entry k cap)) p (λ es q. All (λ (e : Entry). Says e.value) es)
  sure_entries_say cap n p = sure_so (sure_each {P = λ z (e : Entry). Says e.value} _ _ (λ z. sure_says cap) n tt p) (λ es q h. h.1)

  -- entries that are shown as contents give the alignment of those
  pub same-alignment : (es : List Entry) (cs : List EntryContent) (a : ℕ) → map (flagged_entry_of k s) es ≡ map flagged_entry cs → All (λ (e : Entry). Says e.value) es → fold latest a es ≡ fold latest_content a cs
  same-alignment [] [] a h all = refl
  same-alignment [] (c ∷ cs) a h all = let z : ◌≡◌ {A = ℕ} 0 1 = cc in absurd (omega arith)
  same-alignment (e ∷ es) [] a h all = let z : ◌≡◌ {A = ℕ} 0 1 = cc in absurd (omega arith)
  same-alignment (e ∷ es) (c ∷ cs) a h all =
      let first : flagged_entry_of k s e ≡ flagged_entry c = cc in
      let others : map (flagged_entry_of k s) es ≡ map flagged_entry cs = cc in
      let aligns : e.is_alignment ≡ is_word alignment_key c.key = ap (λ (n : FlaggedEntry). n.is_alignment) first in
      let said : value_content (suc depth) k s e.value ≡ c.value = ap (λ (n : FlaggedEntry). n.content.value) first in
      let step : latest a e ≡ latest_content a c = rw (all.0, aligns, said) in
      rw step (same-alignment es cs (latest_content a c) others all.1)

  -- and say those
  pub same_entries : (es : List Entry) (cs : List EntryContent) → map (flagged_entry_of k s) es ≡ map flagged_entry cs → map (entry_content k s) es ≡ cs
  same_entries [] [] h = refl
  same_entries [] (c ∷ cs) h = let z : ◌≡◌ {A = ℕ} 0 1 = cc in absurd (omega arith)
  same_entries (e ∷ es) [] h = let z : ◌≡◌ {A = ℕ} 0 1 = cc in absurd (omega arith)
  same_entries (e ∷ es) (c ∷ cs) h =
      let first : flagged_entry_of k s e ≡ flagged_entry c = cc in
      let others : map (flagged_entry_of k s) es ≡ map flagged_entry cs = cc in
      let entered : entry_content k s e ≡ c = ap (λ (n : FlaggedEntry). n.content) first in
      rw (entered, same_entries es cs others)

-- a value gives an alignment, whatever it says
said-alignment : (c : Content (suc depth)) → Alignment (content_alignment c)
said-alignment (a_scalar t v) = usable-alignment (natural_of (scalar_of t v)) (natural_small t v)
said-alignment (a_text b) = thirty_two
said-alignment (an_array t l) = thirty_two

fold-said : (cs : List EntryContent) (a : ℕ) → Alignment a → Alignment (fold latest_content a cs)
fold-said [] a h = h
fold-said (c ∷ cs) a h = fold-said cs (latest_content a c) (latest-alignment a (is_word alignment_key c.key) (content_alignment c.value) h (said-alignment c.value))

-- so where the header takes fewer than 2 ^ 63 bytes, the start of its data fits 64 bits
pub start_fits : (cs : List EntryContent) (n : ℕ) → n < 2 ^ 63 → padded (alignment_in cs) n ≤ greatest
start_fits cs n short = start_small (alignment_in cs) n (fold-said cs 32 thirty_two) short
