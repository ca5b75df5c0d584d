-- `fetch_listing::put_line` meets its contract: the name's part of the prefix, and then the end of
-- the line. Assumes nothing.
use Rattle.fetch_listing.specs.Text.{record_line}
use Rattle.text_out.proofs.Put.{put-chain, put_same}
use Rattle.fetch_listing.proofs.put_line.Goals as goal

pub returns : goal.returns
unfolding record_line
returns c =
    put-chain (put_same c.name_in-name.ensures c.put_text-a.ensures) c.put_record.ensures
