-- As many zeros as are asked for, of which none is looked at.
use Rattle.std.proofs.Common.{◌≡◌, ℕ, length, replicate, sym}
use Rattle.std.proofs.lemmas.List.{length-replicate}
use Rattle.translate_batch.proofs.window_of.Goals as goal

zeros : (n : ℕ) → n ≡ length {A = ℕ} (replicate n 0)
zeros n = sym (length-replicate n 0)

pub returns : goal.returns
returns c = zeros 1048576
