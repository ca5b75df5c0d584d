-- `text_out::put_labelled` meets its contract: two texts in a row, the second put to the rest of
-- the output. Assumes nothing.
use Rattle.text_out.specs.Words.{labelled}
use Rattle.text_out.proofs.Put.{put-chain}
use Rattle.text_out.proofs.put_labelled.Goals as goal

pub returns : goal.returns
unfolding labelled
returns c = put-chain c.put_text-a.ensures c.put_decimal.ensures
