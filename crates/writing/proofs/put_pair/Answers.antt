-- `writing::put_pair` meets its contract: one text, and then the other. Assumes nothing.
use native.Mathlib.Omega.{arith}
use Rattle.writing.specs.Bytes.{counted}
use Rattle.writing.proofs.Writes.{both-written, both_end, counted-length}
use Rattle.writing.proofs.put_pair.Goals as goal

pub put_counted-requires : goal.put_counted-requires
put_counted-requires c =
    let a = c.args in
    let e = c.put_counted-end.ensures in
    (omega (arith, e.value, counted-length a.first.now), omega arith)

pub returns : goal.returns
returns c =
    let a = c.args in
    let e = c.put_counted-end.ensures in
    let f = c.put_counted.ensures in
    let s = counted a.first.now in
    let t = counted a.second.now in
    record { value = both_end a.out.now a.at s t _ e.value _ f.value; out_after = both-written a.out.now a.at s t _ e.value _ _ e.out_after f.out_after }
