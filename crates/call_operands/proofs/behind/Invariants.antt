use Rattle.std.proofs.Common.{◌≡◌, drop}
use Rattle.call_operands.proofs.behind.Given as goal

abbrev pub invariant-loop : goal.invariant-loop
invariant-loop g l = g.P.Divides.left l.rest ≡ drop l.counter (g.P.Divides.left l.fn.parts)
