-- `listing::put_format` meets its contract: three texts in a row, each put to the rest of the
-- output. Assumes nothing.
use Rattle.listing.specs.Text.{format_text}
use Rattle.text_out.proofs.Put.{put-chain}
use Rattle.listing.proofs.put_format.Goals as goal

pub returns : goal.returns
unfolding format_text
returns c = search put-chain depth 12
