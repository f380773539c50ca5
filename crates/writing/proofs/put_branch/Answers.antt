-- `writing::put_branch` meets its contract: a number, and then a text. Assumes nothing.
use Prim.Native.Nat.{◌+◌}
use mathlib.Core.Path.{refl}
use Rattle.deck.specs.Coding.{two}
use Rattle.writing.specs.Bytes.{counted}
use Rattle.writing.proofs.Writes.{both-written, both_end}
use Rattle.writing.proofs.put_branch.Goals as goal

pub returns : goal.returns
unfolding two
returns c =
    let a = c.args in
    let e = c.put_counted.ensures in
    let s = two.put a.target in
    let t = counted a.operand.now in
    record { value = both_end a.out.now a.at s t (a.at + 2) refl _ e.value; out_after = both-written a.out.now a.at s t (a.at + 2) refl _ _ c.put_two.ensures e.out_after }
