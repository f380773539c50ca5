use Prim.Native.Nat.{◌<◌, ◌^◌}
use native.Mathlib.Omega.{arith}
use mathlib.Core.Path.{ap, sym, ◌∙◌}
use lib.ListN.{length}
use borrow.Author.Rules.{rules}
use Rattle.call_operands.specs.Calling.{leading}
use Rattle.call_operands.proofs.Walk.{leading-here, leading-on, leading_none}
use Rattle.call_operands.proofs.positional_count.Goals as goal

pub returns-then-has_equals : goal.returns-then-has_equals
returns-then-has_equals g c = omega (arith, c.loop-part.invariant.0, ap leading c.in-Some.ensures ∙ leading-here _ _ (sym c.has_equals.ensures ∙ c.if-has_equals.true))

pub overflow_add-count : goal.overflow_add-count
overflow_add-count g c = let bound : length (g.P.Divides.left c.args.parts) < 2 ^ 64 = search rules in omega (arith, bound, c.loop-part.invariant.1, ap length c.in-Some.ensures)

pub loop-part-preserved : goal.loop-part-preserved
loop-part-preserved g c =
    (omega (arith, c.loop-part.invariant.0, ap leading c.in-Some.ensures ∙ leading-on _ _ (sym c.has_equals.ensures ∙ c.if-has_equals.false)), omega (arith, c.loop-part.invariant.1, ap length c.in-Some.ensures))

pub returns : goal.returns
returns g c = omega (arith, c.loop-part.invariant.0, ap leading c.in_default.ensures.0 ∙ leading_none _)
