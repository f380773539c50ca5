-- `bodies::put_kept` meets its contract: its target first, and then the line. Assumes nothing.
use Prim.Native.Nat.{◌+◌}
use mathlib.Core.Path.{ap, ◌∙◌}
use lib.ListN.{length}
use Rattle.text.specs.Bytes.{Bytes}
use Rattle.lent.specs.Splice.{splice}
use Rattle.shapes.specs.Shapes.{part}
use Rattle.bodies.proofs.Written.{kept-writable, kept-bytes}
use Rattle.bodies.proofs.put_kept.Goals as goal

pub put_line-requires : goal.put_line-requires
unfolding part
put_line-requires c =
    let a = c.args in
    kept-writable a.line.now a.body.now a.shape a.code.now a.out.now a.at c.requires _ c.target_number-target.ensures

pub returns : goal.returns
unfolding part
returns c =
    let a = c.args in
    let e = c.put_line.ensures in
    let is = kept-bytes a.line.now a.body.now a.shape a.code.now a.out.now a.at c.requires _ c.target_number-target.ensures in
    record { value = e.value ∙ ap (λ (t : Bytes). a.at + length t) is; out_after = e.out_after ∙ ap (splice a.out.now a.at) is }
