use Rattle.std.proofs.Common.{◌≡◌, ◌+◌, length}
use Rattle.call_operands.specs.Calling.{leading}
use Rattle.call_operands.proofs.positional_count.Given as goal

abbrev pub invariant-loop-part : goal.invariant-loop-part
invariant-loop-part g l = (leading (g.P.Divides.left l.fn.parts) ≡ l.count + leading (g.P.Divides.left l.rest)) × (length (g.P.Divides.left l.fn.parts) ≡ l.count + length (g.P.Divides.left l.rest))

abbrev pub decreases-loop-part : goal.decreases-loop-part
decreases-loop-part g l = length (g.P.Divides.left l.rest)
