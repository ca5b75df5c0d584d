-- `listing::put_plane` meets its contract: two lengths in a row, the second put to the rest of the
-- output. Assumes nothing.
use Rattle.listing.specs.Steps.{plane_text}
use Rattle.text_out.proofs.Put.{put-chain}
use Rattle.listing.proofs.put_plane.Goals as goal

pub returns : goal.returns
unfolding plane_text
returns c = search put-chain depth 12
