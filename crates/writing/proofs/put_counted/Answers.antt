-- `writing::put_counted` meets its contract: the count, and then the text. Assumes nothing.
use native.Mathlib.Omega.{arith}
use Rattle.deck.specs.Coding.{two}
use Rattle.writing.proofs.Writes.{counted-length, counted-written}
use Rattle.writing.proofs.put_counted.Goals as goal

pub returns : goal.returns
unfolding two
returns c =
    let a = c.args in
    record { value = omega (arith, counted-length a.s.now); out_after = counted-written _ _ _ _ _ c.put_two.ensures c.copy.ensures }
