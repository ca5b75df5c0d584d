-- What an entry points at lies before the entry's end, since it was read on the way there. Assumes
-- nothing.
use Prim.Native.Nat.{ℕ, ◌+◌, ◌-◌, ◌^◌, ◌≤◌}
use mathlib.Core.Path.{◌≡◌}
use mathlib.Core.Bool.{Bool}
use mathlib.Core.List.{List}
use native.Mathlib.Omega.{arith}
use lib.Dec.{leb, eqb, ltb}
use lib.ListN.{length}
use borrow.Author.Tests.{le-leb}
use Rattle.reading.specs.Back.{All, Sure}
use Rattle.reading.specs.Each.{times}
use Rattle.reading.proofs.SureLaws.{sure_then, sure_done, sure_here, sure_check, sure_if, sure_field, sure_run, whatever}
use Rattle.reading.proofs.Onward.{onward, sure_each-by}
use Rattle.scalars.specs.Scalars.{scalar_width}
use Rattle.values.specs.declared.Dialect.{Dialect}
use Rattle.values.specs.declared.Span.{Span}
use Rattle.values.specs.declared.Entry.{Entry}
use Rattle.values.specs.declared.Value.{Value}
use Rattle.values.specs.declared.Value.TheVariants.{Single, Text, Array}
use Rattle.values.specs.Format.{value, text_looking, text, key_of, key, value_of, array, depth, keeping, entry}
use Rattle.values.specs.Contents.{bytes_at, inside_of}
use Rattle.values.specs.Spans.{EndsBy, ItemsEndBy, ValueEndsBy, EntryEndsBy}
use Rattle.values.proofs.ValuesFit.{items_anywhere}

-- the bytes of a text that ends within the bytes are there
pub text-there : (s : List ℕ) (a : Span) → EndsBy (length s) a → inside_of s a ≡ bytes_at s a
text-there s a h = rw (le-leb (a.place + a.len) (length s) h)

-- what ends by an earlier place ends by a later one
pub value_later : (k : Dialect) (s : List ℕ) (e later : ℕ) → e ≤ later → (v : Value) → ValueEndsBy k s e v → ValueEndsBy k s later v
value_later k s e later up (Single x) h = tt
value_later k s e later up (Text a) h = omega arith
value_later k s e later up (Array a) h = record { items = h.items; end = h.end; read = h.read; onward = h.onward; inside = omega arith }

pub entry_later : (k : Dialect) (s : List ℕ) (e later : ℕ) → e ≤ later → (x : Entry) → EntryEndsBy k s e x → EntryEndsBy k s later x
entry_later k s e later up x h =
    let i : EndsBy e x.key = h.key in
    record { key = omega arith; value = value_later k s e later up x.value h.value }

-- however many of an array's items are kept
kept-ends : (k : Dialect) (s : List ℕ) (e : ℕ) (tokens : Bool) (cap : ℕ) (v : Value) → ValueEndsBy k s e v → ValueEndsBy k s e (keeping tokens cap v)
kept-ends k s e tokens cap (Single x) h = tt
kept-ends k s e tokens cap (Text a) h = h
kept-ends k s e tokens cap (Array a) h = record { items = h.items; end = h.end; read = h.read; onward = h.onward; inside = h.inside }

module _ (k : Dialect) (s : List ℕ) where
  -- a text ends where its bytes do, whatever is made of it
  looking-ends : {A : Type 0} {P : A → ℕ → Type 0} (l : ℕ) (f : Span → List ℕ → A) → ((a : Span) (bs : List ℕ) → P (f a bs) (a.place + a.len))
      → (p : ℕ) → Sure s (text_looking l f k) p P
  unfolding text_looking
  looking-ends l f made p =
      sure_here _ (sure_then whatever (λ n q u. sure_check (leb n (2 ^ 30)) 7 p _ (λ e. sure_here _ (sure_field (λ there. made (record { place = q; len = n }) _)))))

  pub text-ends : (p : ℕ) → Sure s (text k) p (λ a q. EndsBy q a)
  unfolding text
  text-ends p = looking-ends 0 (λ a bs. a) (λ a bs. omega arith) p

  key-ends : (p : ℕ) → Sure s (key k) p (λ x q. EndsBy q x.span)
  unfolding key
  key-ends p = looking-ends 18 key_of (λ a bs. omega arith) p

  array-ends : (o p : ℕ) → Sure s (array depth k o) p (λ a q. ItemsEndBy k s q a)
  unfolding array
  array-ends o p =
      sure_here _ (sure_then whatever (λ t q u. sure_then whatever (λ n r v. sure_here _ (sure_then (sure_run whatever) (λ items e g.
      sure_done (record { items = items; end = e; read = items_anywhere (depth - 1) k p t n s r g.1; onward = onward _ s r g.1; inside = omega arith }))))))

  value-ends : (p : ℕ) → Sure s (value k) p (λ v q. ValueEndsBy k s q v)
  unfolding value value_of
  value-ends p =
      sure_here _ (sure_then whatever (λ t q u.
      sure_if (ltb 0 (scalar_width t)) _ _ (λ e. sure_then whatever (λ n r v. sure_done tt))
      (λ e. sure_if (eqb t 8) _ _ (λ f. sure_then (text-ends q) (λ a r h. sure_done h)) (λ f. sure_then (array-ends p q) (λ a r h. sure_done h)))))

  entry-ends : (cap p : ℕ) → Sure s (entry k cap) p (λ x q. EntryEndsBy k s q x)
  unfolding entry
  entry-ends cap p =
      sure_then (key-ends p) (λ x q h. sure_then (sure_run (value-ends q)) (λ v r g.
      let i : EndsBy q x.span = h in
      let j : q ≤ r = onward (value k) s q g.1 in
      sure_done (record { key = omega arith; value = kept-ends k s r x.is_tokenizer cap v g.0 })))

  pub entries-end : (cap n p : ℕ) → Sure s (times n (entry k cap)) p (λ l q. All (EntryEndsBy k s q) l)
  entries-end cap n p = sure_each-by _ _ (entry_later k s) (λ z. entry-ends cap) n tt p
