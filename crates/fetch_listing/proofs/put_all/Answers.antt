-- `fetch_listing::put_all` meets its contract: the first line, and the others put to the rest of
-- the output. Assumes nothing.
use Rattle.fetch_listing.specs.Text.{lines_of}
use Rattle.text_out.proofs.Put.{put-chain}
use Rattle.fetch_listing.proofs.put_all.Goals as goal

pub returns : goal.returns
unfolding lines_of
returns c = search put-chain depth 12
