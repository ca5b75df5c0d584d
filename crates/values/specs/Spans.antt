-- Where what a record points at ends: its texts, and the items of its arrays.
use Rattle.std.specs.Prelude.{ℕ, ◌+◌, ◌≤◌, ◌≡◌, List}
use Rattle.reading.specs.Reading.{accepted, run}
use Rattle.reading.specs.Each.{times}
use Rattle.values.specs.declared.Dialect.{Dialect}
use Rattle.values.specs.declared.Span.{Span}
use Rattle.values.specs.declared.ArraySpan.{ArraySpan}
use Rattle.values.specs.declared.Value.{Value}
use Rattle.values.specs.declared.Value.TheVariants.{Single, Text, Array}
use Rattle.values.specs.declared.Entry.{Entry}
use Rattle.values.specs.Format.{depth}
use Rattle.values.specs.Contents.{value_in}

-- a text ends at or before e
abbrev pub EndsBy : ℕ → Span → Type 0
EndsBy e a = a.place + a.len ≤ e

-- an array's items, as many as it counts, are read from the place of the first on, and the last of
-- them ends at or before e
pub record ItemsEndBy (k : Dialect) (s : List ℕ) (e : ℕ) (a : ArraySpan) : Type 0 where
  pub items : List Value
  pub end : ℕ
  pub read : accepted items end ≡ run (times a.count (value_in depth k 0 a.item)) s a.first
  pub onward : a.first ≤ end
  pub inside : end ≤ e

-- what a value points at ends at or before e; a scalar points at nothing
abbrev pub ValueEndsBy : Dialect → List ℕ → ℕ → Value → Type 0
ValueEndsBy k s e (Single x) = Unit {0}
ValueEndsBy k s e (Text a) = EndsBy e a
ValueEndsBy k s e (Array a) = ItemsEndBy k s e a

-- an entry's key ends at or before e, and so does what its value points at
pub record EntryEndsBy (k : Dialect) (s : List ℕ) (e : ℕ) (x : Entry) : Type 0 where
  pub key : EndsBy e x.key
  pub value : ValueEndsBy k s e x.value
