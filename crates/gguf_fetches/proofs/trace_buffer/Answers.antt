-- Any count of zeros is that long, said of every count, so that the checker need not count so far.
use Rattle.std.proofs.Common.{◌≡◌, ℕ, length, sym}
use Rattle.std.proofs.lemmas.List.{length-replicate}
use Rattle.std.proofs.Math.ListN.{replicate}
use Rattle.gguf_fetches.proofs.trace_buffer.Goals as goal

counted : (n : ℕ) → n ≡ length {A = ℕ} (replicate n 0)
counted n = sym (length-replicate n 0)

pub returns : goal.returns
returns c = counted 4194304
