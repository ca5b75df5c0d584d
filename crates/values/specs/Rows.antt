-- An entry as a row of seven words (crates/rows names the columns).
use Rattle.std.specs.Prelude.{ℕ, List, [], ◌∷◌}
use Rattle.values.specs.declared.Value.{Value}
use Rattle.values.specs.declared.Value.TheVariants.{Single, Text, Array}
use Rattle.values.specs.declared.Entry.{Entry}
use Rattle.scalars.specs.Scalars.{scalar_type, scalar_word}

-- a value's type, and four words: a scalar and three zeros; a text's place, its length and two
-- zeros; an array's item type, count, kept count and the place of its first item
abbrev pub value_words : Value → List ℕ
value_words (Single x) = scalar_type x ∷ scalar_word x ∷ 0 ∷ 0 ∷ 0 ∷ []
value_words (Text a) = 8 ∷ a.place ∷ a.len ∷ 0 ∷ 0 ∷ []
value_words (Array a) = 9 ∷ a.item ∷ a.count ∷ a.kept ∷ a.first ∷ []

-- the key's place and length, and the value's words
abbrev pub entry_row : Entry → List ℕ
entry_row e = e.key.place ∷ e.key.len ∷ value_words e.value
