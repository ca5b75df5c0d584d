-- `text_out::put_line_end` meets its contract: two texts in a row, the second put to the rest of
-- the output. Assumes nothing.
use Rattle.text_out.specs.Words.{line_end}
use Rattle.text_out.proofs.Put.{put-chain}
use Rattle.text_out.proofs.put_line_end.Goals as goal

pub returns : goal.returns
unfolding line_end
returns c = put-chain c.put_labelled-a.ensures c.put_text.ensures
