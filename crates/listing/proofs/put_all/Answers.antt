-- `listing::put_all` meets its contract: three texts in a row, each put to the rest of the output.
-- Assumes nothing.
use Rattle.listing.specs.Text.{lines_of}
use Rattle.text_out.proofs.Put.{put-chain}
use Rattle.listing.proofs.put_all.Goals as goal

pub returns : goal.returns
unfolding lines_of
returns c = search put-chain depth 12
