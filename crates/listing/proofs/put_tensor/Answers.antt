-- `listing::put_tensor` meets its contract: three texts in a row, each put to the rest of the
-- output. Assumes nothing.
use Rattle.listing.specs.Text.{tensor_line}
use Rattle.text_out.proofs.Put.{put-chain}
use Rattle.listing.proofs.put_tensor.Goals as goal

pub returns : goal.returns
unfolding tensor_line
returns c = search put-chain depth 12
