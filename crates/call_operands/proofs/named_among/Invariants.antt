use Rattle.std.proofs.Common.{◌≡◌, length}
use Rattle.call_operands.specs.Calling.{named_among}
use Rattle.call_operands.proofs.named_among.Given as goal

abbrev pub invariant-loop-part : goal.invariant-loop-part
invariant-loop-part g l = named_among l.name (g.P.Divides.left l.fn.parts) ≡ named_among l.name (g.P.Divides.left l.rest)

abbrev pub decreases-loop-part : goal.decreases-loop-part
decreases-loop-part g l = length (g.P.Divides.left l.rest)
