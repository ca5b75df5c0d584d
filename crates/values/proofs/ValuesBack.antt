-- What is written of an entry is read back: each part by the laws of its fields. Assumes nothing.
use Rattle.std.specs.Prelude.{if◌then◌else◌}
use Prim.Native.Nat.{ℕ, zero, suc, ◌^◌, ◌≤◌, ◌<◌}
use mathlib.Core.Path.{◌≡◌, refl, ap, ◌∙◌}
use mathlib.Core.List.{List, [], ◌∷◌, ◌++◌, map, append_assoc}
use mathlib.Core.Bool.{Bool, true, false}
use native.Mathlib.Omega.{arith}
use lib.ListN.{length, take}
use lib.Dec.{eqb}
use borrow.Author.Tests.{le-leb, lt-ltb}
use Rattle.reading.specs.Back.{same, Back, All, bytes_of_all}
use Rattle.reading.specs.Each.{each, times}
use Rattle.values.specs.Format.{value, size_width, size, text_looking, text, is_word, alignment_key, tokenizer_key, key_of, key, type, value_of, array, depth, keeping, entry}
use Rattle.scalars.specs.Scalars.{scalar_width, scalar_of, scalar_bits, scalar_type}
use Rattle.reading.proofs.BackLaws.{follows, ends, exactly, closes, at_place, nothing_more, looking, checked, looked-at, list_back, items_at}
use Rattle.fields.proofs.NumberFields.{number-back}
use Rattle.values.specs.Contents.{a_scalar, a_text, an_array, Content, EntryContent, FlaggedKey, flagged_key, FlaggedEntry, flagged_entry, size_bytes, text_bytes, type_bytes, type_of, value_bytes, entry_bytes, bytes_at, value_content, flagged_key_of, flagged_entry_of, Short, FitsValue, FitsEntry}
use Rattle.fields.specs.Bytes.{Within}
use Rattle.values.proofs.Texts.{begins-take, word-told}
use Rattle.values.specs.declared.Dialect.{Dialect}
use Rattle.values.specs.declared.Span.{Span}
use Rattle.values.specs.declared.ArraySpan.{ArraySpan}
use Rattle.values.specs.declared.Entry.{Entry}
use Rattle.scalars.specs.declared.Scalar.{Scalar}
use Rattle.values.specs.declared.Value.{Value}
use Rattle.values.specs.declared.Value.TheVariants.{Single, Text, Array}

-- a text's size fits in either width
room : (b : Bool) (n : ℕ) → n ≤ 2 ^ 30 → n < 256 ^ (if b then 4 else 8)
room true n h = omega arith
room false n h = omega arith

-- what a value says, however many of an array's items are kept
pub kept-said : (d : ℕ) (k : Dialect) (s : List ℕ) (tokens : Bool) (cap : ℕ) (v : Value) → value_content d k s (keeping tokens cap v) ≡ value_content d k s v
unfolding value_content
kept-said zero k s tokens cap v = refl
kept-said (suc d) k s tokens cap (Single x) = refl
kept-said (suc d) k s tokens cap (Text a) = refl
kept-said (suc d) k s tokens cap (Array a) = refl

-- the type of what fits is a type
type-known : (d : ℕ) (k : Dialect) (c : Content (suc d)) → FitsValue (suc d) k c → type_of c ≤ 12
type-known d k (a_scalar t v) fits = fits.known
type-known d k (a_text b) fits = omega arith
type-known d k (an_array t l) fits = omega arith

-- that arrays are read back, where d of them may stand in one another
abbrev ArraysBack : Dialect → List ℕ → ℕ → Type 0
ArraysBack k s d =
    (t : ℕ) (l : List (Content d)) → FitsValue (suc d) k (an_array t l) → (o p : ℕ)
    → Back s (λ (a : ArraySpan). value_content (suc d) k s (Array a)) (array d k o) p (value_bytes (suc d) k (an_array t l)) (an_array t l)

module _ (k : Dialect) {s : List ℕ} where
  pub size_back : (n : ℕ) → Within (size_width k) n → (p : ℕ) → Back s same (size k) p (size_bytes k n) n
  unfolding size size_bytes
  size_back n fits p = number-back (size_width k) k.big n p fits

  -- a text of which the first l bytes are looked at, as a view shows what is made of it
  pub looking-back : {A C : Type 0} (l : ℕ) (f : Span → List ℕ → A) (view : A → C) (b : List ℕ) → Short b → (p : ℕ) {c : C}
      → ((a : Span) → bytes_at s a ≡ b → view (f a (take l b)) ≡ c) → Back s view (text_looking l f k) p (text_bytes k b) c
  unfolding text_looking text_bytes
  looking-back l f view b short p made =
      at_place _ (exactly _ (size_back (length b) (room (eqb k.version 1) (length b) short) p)
      (checked 7 p (le-leb (length b) (2 ^ 30) short) (at_place _ (looking (λ h. looked-at _ refl (made _ h.bytes))))))

  pub text-back : (b : List ℕ) → Short b → (p : ℕ) → Back s (bytes_at s) (text k) p (text_bytes k b) b
  unfolding text
  text-back b short p = looking-back 0 (λ a bs. a) (bytes_at s) b short p (λ a e. e)

  -- a key: its bytes, and what they decide
  pub key_back : (b : List ℕ) → Short b → (p : ℕ) → Back s (flagged_key_of s) (key k) p (text_bytes k b) (flagged_key b)
  unfolding key
  key_back b short p =
      looking-back 18 key_of (flagged_key_of s) b short p (λ a e. rw (e, word-told alignment_key b 18 (omega arith), begins-take tokenizer_key b 18 (omega arith)))

  pub type-back : (t : ℕ) → t ≤ 12 → (p : ℕ) → Back s same (type k) p (type_bytes k t) t
  unfolding type type_bytes
  type-back t fits p = at_place _ (closes _ (number-back 4 k.big t p (omega arith)) (checked 8 p (le-leb t 12 fits) (nothing_more refl)))

  -- a value is read back, where the arrays in it are
  said_from : (d : ℕ) → ArraysBack k s d → (c : Content (suc d)) → FitsValue (suc d) k c → (o p : ℕ)
      → Back s (value_content (suc d) k s) (value_of (array d k) k o (type_of c)) p (value_bytes (suc d) k c) c
  unfolding value_of scalar_width value_content value_bytes
  said_from d arrays (a_scalar t v) fits o p =
      rw (lt-ltb 0 (scalar_width t) fits.wide) (ends _ (number-back (scalar_width t) k.big v p fits.within)
      (λ n e. ap (λ m. a_scalar (scalar_type (scalar_of t m)) (scalar_bits (scalar_of t m))) e ∙ rw (fits.typed, fits.normal)))
  said_from d arrays (a_text b) fits o p = ends _ (text-back b fits p) (λ a e. ap a_text e)
  said_from d arrays (an_array t l) fits o p = ends _ (arrays t l fits o p) (λ a e. e)

  -- arrays, by the depth: the items of an array are there, and so the view finds them again
  array_back : (d : ℕ) → ArraysBack k s d
  unfolding array value_content value_bytes
  array_back zero t l fits o p = absurd (omega (arith, fits.0))
  array_back (suc d) t l fits o p =
      let items : (q r : ℕ) → Back s (map (value_content (suc d) k s)) (times (length l) (value_of (array d k) k q t)) r (bytes_of_all (value_bytes (suc d) k) l) l =
      λ q r. list_back (λ c h u. rw (← h.0) (said_from d (array_back d) c h.1 q u)) l fits.3 r in
      simp append_assoc (at_place _ (exactly _ (type-back t fits.1 p) (exactly _ (size_back (length l) fits.2 _) (at_place _
      (looking (λ there. ends _ (items p _) (λ a e. ap (an_array t) (items_at _ _ (items 0 _) there))))))))

  pub said-back : (d : ℕ) (c : Content (suc d)) → FitsValue (suc d) k c → (o p : ℕ)
      → Back s (value_content (suc d) k s) (value_of (array d k) k o (type_of c)) p (value_bytes (suc d) k c) c
  said-back d = said_from d (array_back d)

  pub value-back : (c : Content (suc depth)) → FitsValue (suc depth) k c → (p : ℕ)
      → Back s (value_content (suc depth) k s) (value k) p (type_bytes k (type_of c) ++ value_bytes (suc depth) k c) c
  unfolding value
  value-back c fits p = at_place _ (exactly _ (type-back (type_of c) (type-known depth k c fits) p) (said-back depth c fits p _))

  pub entry-back : (cap : ℕ) (c : EntryContent) → FitsEntry k c → (p : ℕ) → Back s (flagged_entry_of k s) (entry k cap) p (entry_bytes k c) (flagged_entry c)
  unfolding entry entry_bytes
  entry-back cap c fits p =
      simp append_assoc (follows (key_back c.key fits.key p) (λ x e. ends _ (value-back c.value fits.value _) (λ v e'.
      let i : bytes_at s x.span ≡ c.key = ap (λ (n : FlaggedKey). n.key) e in
      let j : x.is_alignment ≡ is_word alignment_key c.key = ap (λ (n : FlaggedKey). n.is_alignment) e in
      rw (i, j, kept-said (suc depth) k s x.is_tokenizer cap v, e'))))

  pub entries-back : (cap : ℕ) (cs : List EntryContent) → All (FitsEntry k) cs → (p : ℕ)
      → Back s (map (flagged_entry_of k s)) (times (length cs) (entry k cap)) p (bytes_of_all (entry_bytes k) cs) (map flagged_entry cs)
  unfolding each bytes_of_all
  entries-back cap [] fits p = nothing_more refl
  entries-back cap (c ∷ cs) fits p = follows (entry-back cap c fits.0 p) (λ a e. ends _ (entries-back cap cs fits.1 _) (λ r e'. cc))

-- a value that is shown as a scalar is one, of that type and those bits
pub single_said : (d : ℕ) (k : Dialect) (s : List ℕ) (v : Value) {t n : ℕ} → value_content (suc d) k s v ≡ a_scalar t n → (x : Scalar) × (v ≡ Single x) × (scalar_type x ≡ t) × (scalar_bits x ≡ n)
unfolding value_content
single_said d k s (Single x) e = (x, refl, cc, cc)
single_said d k s (Text a) e = let z : ◌≡◌ {A = ℕ} 0 1 = cc in absurd (omega arith)
single_said d k s (Array a) e = let z : ◌≡◌ {A = ℕ} 0 1 = cc in absurd (omega arith)

-- and so is an entry's
pub entry_value : (k : Dialect) (s : List ℕ) (e : Entry) (c : EntryContent) {t n : ℕ} → flagged_entry_of k s e ≡ flagged_entry c → c.value ≡ a_scalar t n
    → (x : Scalar) × (e.value ≡ Single x) × (scalar_type x ≡ t) × (scalar_bits x ≡ n)
entry_value k s e c f g = single_said depth k s e.value (ap (λ (n : FlaggedEntry). n.content.value) f ∙ g)
