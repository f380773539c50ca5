use mathlib.Core.Path.{ap, sym, ◌∙◌}
use Rattle.call_operands.specs.Calling.{are_operands}
use Rattle.call_operands.proofs.Walk.{operands-stop, operands-on}
use Rattle.call_operands.proofs.are_operands.Goals as goal

pub returns-then-not-may_stand : goal.returns-then-not-may_stand
returns-then-not-may_stand g c =
    sym (c.loop-part.invariant ∙ ap (are_operands c.loop-part.keywords) c.in-Some.ensures ∙ operands-stop _ _ c.loop-part.keywords c.may_stand.ensures c.if-not-may_stand.true)

pub loop-part-preserved : goal.loop-part-preserved
loop-part-preserved g c =
    c.loop-part.invariant
    ∙ ap (are_operands c.loop-part.keywords) c.in-Some.ensures
    ∙ operands-on _ _ c.loop-part.keywords c.may_stand.ensures c.if-not-may_stand.false c.has_equals-keywords.ensures

pub returns : goal.returns
unfolding are_operands
returns g c = sym (c.loop-part.invariant ∙ ap (are_operands c.loop-part.keywords) c.in_default.ensures.0)
