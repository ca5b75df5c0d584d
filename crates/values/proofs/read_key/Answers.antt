-- `values::read_key` meets its contract: a key is a text, and what its first bytes decide. Assumes
-- nothing.
use mathlib.Core.Path.{refl, ap, ◌∙◌}
use Rattle.reading.specs.Reading.{and_then}
use Rattle.values.specs.Format.{is_word, alignment_key, key, key_of}
use Rattle.values.proofs.Texts.{text-looked, text-inside, alignment-looked}
use Rattle.values.proofs.read_key.Goals as goal

pub returns : goal.returns
unfolding key and_then
returns c =
    let r = c.in_ok-span.ensures in
    let looked = alignment-looked c.args.s.now c.in_ok-span.span (text-inside _ _ _ r).there in
    let is_alignment = c.is_alignment_key-is_alignment.ensures ∙ ap (is_word alignment_key) c.inside.ensures ∙ looked in
    rw (text-looked 18 key_of, ← r, is_alignment, c.is_tokenizer_key-is_tokenizer.ensures) refl
