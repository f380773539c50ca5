use mathlib.Core.Path.{ap, sym, ◌∙◌}
use Rattle.call_operands.specs.Calling.{named_among}
use Rattle.call_operands.proofs.Walk.{named-here, named-on, named_none}
use Rattle.call_operands.proofs.named_among.Goals as goal

pub returns-then-is_named : goal.returns-then-is_named
returns-then-is_named g c =
    sym (c.loop-part.invariant ∙ ap (named_among c.args.name.now) c.in-Some.ensures ∙ named-here _ _ c.args.name.now (sym c.is_named.ensures ∙ c.if-is_named.true))

pub loop-part-preserved : goal.loop-part-preserved
loop-part-preserved g c = c.loop-part.invariant ∙ ap (named_among c.args.name.now) c.in-Some.ensures ∙ named-on _ _ c.args.name.now (sym c.is_named.ensures ∙ c.if-is_named.false)

pub returns : goal.returns
returns g c = sym (c.loop-part.invariant ∙ ap (named_among c.args.name.now) c.in_default.ensures.0 ∙ named_none _ c.args.name.now)
