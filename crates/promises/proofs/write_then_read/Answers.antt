-- `promises::write_then_read` meets its contract: what the writer and the reader ensure is what a
-- round trip asks for, a slice has bytes below 256, and its length fits 64 bits. Assumes nothing.
use native.Mathlib.Omega.{arith}
use Rattle.promises.proofs.RoundTrip.{round_trip}
use Rattle.promises.proofs.write_then_read.Goals as goal

pub returns : goal.returns
returns c =
    round_trip _ _ _ _ _ _ _ _ _ _ _ (λ i. (c.shared_slice_known-1.given i).fits) (omega (arith, c.well_formed)) c.write_header-written.ensures.value c.write_header-written.ensures.out_after
    c.read-read.ensures
