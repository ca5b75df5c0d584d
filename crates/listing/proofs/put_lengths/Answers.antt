-- `listing::put_lengths` meets its contract: the first two lengths, and each of the other two where
-- it is stated (`lengths-split`). Assumes nothing.
use Rattle.listing.proofs.Lengths.{lengths-split}
use Rattle.text_out.proofs.Put.{put-chain, put_same}
use Rattle.listing.proofs.put_lengths.Goals as goal

pub returns : goal.returns
returns c =
    put_same (lengths-split c.args.row) (put-chain (put-chain c.put_plane-a.ensures c.put_further.ensures) c.put_further-2.ensures)
