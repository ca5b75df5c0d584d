-- `listing::put_version` meets its contract: two texts in a row, the second put to the rest of the
-- output. Assumes nothing.
use Rattle.listing.specs.Text.{version_text}
use Rattle.text_out.proofs.Put.{put-chain}
use Rattle.listing.proofs.put_version.Goals as goal

pub returns : goal.returns
unfolding version_text
returns c = search put-chain depth 12
