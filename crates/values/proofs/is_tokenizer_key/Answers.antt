-- `values::is_tokenizer_key` meets its contract: a shorter text does not start with it, and of a
-- longer one ten bytes tell. Assumes nothing.
use mathlib.Core.Path.{◌≡◌, sym, ◌∙◌}
use mathlib.Core.Bool.{false}
use native.Mathlib.Omega.{arith}
use lib.Dec.{leb}
use Rattle.std.proofs.lemmas.Bool.Decides.{nat_tests}
use Rattle.values.specs.Format.{tokenizer_key}
use Rattle.values.proofs.Texts.{long-enough, too_short}
use Rattle.values.proofs.is_tokenizer_key.Goals as goal

pub returns-then-span-ge10 : goal.returns-then-span-ge10
returns-then-span-ge10 c =
    let a = c.args in
    c.begins_at.ensures ∙ sym (long-enough tokenizer_key 18 a.s.now a.span (omega arith) (omega arith))

pub returns-else-span-ge10 : goal.returns-else-span-ge10
returns-else-span-ge10 c =
    let a = c.args in
    let short : leb 10 a.span.len ≡ false = grind (arith, nat_tests) in
    short ∙ sym (too_short tokenizer_key 18 a.s.now a.span c.requires (omega arith))
