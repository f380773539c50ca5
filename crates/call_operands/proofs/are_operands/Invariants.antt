use Rattle.std.proofs.Common.{◌≡◌, false, length}
use Rattle.call_operands.specs.Calling.{are_operands}
use Rattle.call_operands.proofs.are_operands.Given as goal

abbrev pub invariant-loop-part : goal.invariant-loop-part
invariant-loop-part g l = are_operands false (g.P.Divides.left l.fn.parts) ≡ are_operands l.keywords (g.P.Divides.left l.rest)

abbrev pub decreases-loop-part : goal.decreases-loop-part
decreases-loop-part g l = length (g.P.Divides.left l.rest)
