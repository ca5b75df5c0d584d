-- `fetch_listing::put_head` meets its contract: two texts in a row, the second put to the rest of
-- the output. Assumes nothing.
use Rattle.fetch_listing.specs.Text.{trace_line}
use Rattle.text_out.proofs.Put.{put-chain}
use Rattle.fetch_listing.proofs.put_head.Goals as goal

pub returns : goal.returns
unfolding trace_line
returns c = search put-chain depth 12
