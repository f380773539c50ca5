-- `writing::put_three` meets its contract: one text, and then the other two. Assumes nothing.
use native.Mathlib.Omega.{arith}
use mathlib.Core.List.{◌++◌}
use Rattle.writing.specs.Bytes.{counted}
use Rattle.writing.proofs.Writes.{both-written, both_end, counted-length}
use Rattle.writing.proofs.put_three.Goals as goal

pub put_pair-requires : goal.put_pair-requires
put_pair-requires c =
    let a = c.args in
    let e = c.put_counted-end.ensures in
    (omega (arith, e.value, counted-length a.name.now), (omega arith, omega arith))

pub returns : goal.returns
returns c =
    let a = c.args in
    let e = c.put_counted-end.ensures in
    let f = c.put_pair.ensures in
    let s = counted a.name.now in
    let t = counted a.operation.now ++ counted a.operand.now in
    record { value = both_end a.out.now a.at s t _ e.value _ f.value; out_after = both-written a.out.now a.at s t _ e.value _ _ e.out_after f.out_after }
