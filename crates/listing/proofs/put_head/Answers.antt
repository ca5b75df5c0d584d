-- `listing::put_head` meets its contract: three texts in a row, each put to the rest of the output.
-- Assumes nothing.
use Rattle.listing.specs.Text.{head_line}
use Rattle.text_out.proofs.Put.{put-chain}
use Rattle.listing.proofs.put_head.Goals as goal

pub returns : goal.returns
unfolding head_line
returns c = search put-chain depth 12
