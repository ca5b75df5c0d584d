-- `listing::put_refusal` meets its contract: two texts in a row, the second put to the rest of the
-- output. Assumes nothing.
use Rattle.listing.specs.Text.{refusal_line}
use Rattle.text_out.proofs.Put.{put-chain}
use Rattle.listing.proofs.put_refusal.Goals as goal

pub returns : goal.returns
unfolding refusal_line
returns c = put-chain c.put_labelled-a.ensures c.put_line_end.ensures
