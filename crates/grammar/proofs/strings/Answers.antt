use mathlib.Core.Path.{◌∙◌}
use Rattle.grammar.proofs.Chains.{loop-starts, loop-none, loop-ends, loop-fails}
use Rattle.grammar.proofs.Chains.{loop-less as chain-less, loop-again as chain-again}
use Rattle.grammar.proofs.Quotes.{parts-of, strings-of}
use Rattle.grammar.proofs.strings.Goals as goal

pub returns-in_err-here : goal.returns-in_err-here
returns-in_err-here c = let a = c.args in loop-none (parts-of a.nest) a.kinds.now a.code.now _ _ c.string.ensures c.in_err-here.was _ c.from_residual.ensures.1 ∙ strings-of a.nest _

pub loop-next-init : goal.loop-next-init
loop-next-init c = let a = c.args in loop-starts (parts-of a.nest) a.kinds.now a.code.now _ _ c.string.ensures c.in_ok-here.was

pub returns-in_err-here-2 : goal.returns-in_err-here-2
returns-in_err-here-2 c = let a = c.args in loop-fails (parts-of a.nest) a.kinds.now a.code.now _ _ c.loop-next.invariant (c.after_byte.ensures a.kinds.now) c.in-Some.is _ c.string-in-Some.ensures c.in_err-here-2.was _ c.from_residual-in_err-here-2.ensures.1 ∙ strings-of a.nest _

pub loop-next-smaller : goal.loop-next-smaller
loop-next-smaller c = let a = c.args in chain-less (parts-of a.nest) a.kinds.now a.code.now _ _ c.loop-next.invariant (c.after_byte.ensures a.kinds.now) c.in-Some.is _ c.string-in-Some.ensures c.in_ok-here-2.was

pub loop-next-preserved : goal.loop-next-preserved
loop-next-preserved c = let a = c.args in chain-again (parts-of a.nest) a.kinds.now a.code.now _ _ c.loop-next.invariant (c.after_byte.ensures a.kinds.now) c.in-Some.is _ c.string-in-Some.ensures c.in_ok-here-2.was

pub returns : goal.returns
returns c = let a = c.args in loop-ends (parts-of a.nest) a.kinds.now a.code.now _ _ c.loop-next.invariant (c.after_byte.ensures a.kinds.now) c.in_default.is ∙ strings-of a.nest _
