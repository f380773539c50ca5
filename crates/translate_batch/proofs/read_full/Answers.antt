-- What one read gives stands behind what the earlier ones gave.
use Rattle.std.proofs.Common.{◌-◌, ◌≤◌, length, arith}
use Rattle.translate_batch.proofs.Reading.{read-on}
use Rattle.translate_batch.proofs.read_full.Goals as goal

pub loop-done-preserved : goal.loop-done-preserved
loop-done-preserved g c =
    let buffer = c.loop-done.buffer in
    let done = c.loop-done.done in
    let fits : c.in-Ok.count ≤ length c.read.new.buf = c.in-Ok.ensures.bound.0 in
    record {
      in_buffer = omega arith;
      read = read-on _ _ _ done c.in-Ok.count (length buffer - done) buffer c.read.new.buf c.loop-done.invariant.in_buffer fits c.loop-done.invariant.read c.in-Ok.ensures.bytes.0;
    }
