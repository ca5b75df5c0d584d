-- `listing::put_shape` meets its contract: three texts in a row, each put to the rest of the
-- output; the first is the name's part of the prefix. Assumes nothing.
use Rattle.listing.specs.Text.{shape_text}
use Rattle.text_out.proofs.Put.{put-chain, put_same}
use Rattle.listing.proofs.put_shape.Goals as goal

pub returns : goal.returns
unfolding shape_text
returns c =
    put-chain (put-chain (put_same c.name_in-name.ensures c.put_text-a.ensures) c.put_labelled.ensures) c.put_lengths.ensures
