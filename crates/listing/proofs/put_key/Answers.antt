-- `listing::put_key` meets its contract: three texts in a row, each put to the rest of the output;
-- the second is the key's part of the prefix. Assumes nothing.
use Rattle.listing.specs.Text.{key_line}
use Rattle.text_out.proofs.Put.{put-chain, put_same}
use Rattle.listing.proofs.put_key.Goals as goal

pub returns : goal.returns
unfolding key_line
returns c =
    put-chain (put-chain c.put_text-a.ensures (put_same c.name_in-name.ensures c.put_text.ensures)) c.put_line_end.ensures
