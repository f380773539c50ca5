-- `bodies::put_remark` meets its contract: a line that keeps no field. Assumes nothing.
use Rattle.shapes.specs.Shapes.{part}
use Rattle.bodies.specs.Lines.{remark_bytes}
use Rattle.bodies.proofs.Written.{remark-writable}
use Rattle.bodies.proofs.put_remark.Goals as goal

pub put_line-requires : goal.put_line-requires
put_line-requires c =
    remark-writable c.args.does c.args.line.now c.args.out.now c.args.at c.requires.0 c.requires.1

pub returns : goal.returns
unfolding remark_bytes part
returns c = record { value = c.put_line.ensures.value; out_after = c.put_line.ensures.out_after }
