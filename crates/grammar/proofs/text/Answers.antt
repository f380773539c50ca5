use mathlib.Core.Path.{◌∙◌}
use Rattle.rules.specs.Grammar.{deeper}
use Rattle.rules.specs.Form.{form}
use Rattle.grammar.proofs.Texts.{scan-starts, scan-ends, scan-less, scan-again, scan-fails, text-goes, text-stops, add-got, texts-of, text_of}
use Rattle.grammar.proofs.text.Goals as goal

pub loop-here-init : goal.loop-here-init
loop-here-init c = let a = c.args in scan-starts (texts-of a.nest) a.kinds.now a.code.now _

pub returns-in_err-here : goal.returns-in_err-here
returns-in_err-here c = let a = c.args in scan-fails (texts-of a.nest) a.kinds.now a.code.now _ _ c.loop-here.invariant (text-goes (deeper form a.nest) a.kinds.now a.code.now _ c.loop-here-test.true) _ (c.piece.ensures ∙ add-got (deeper form a.nest) _) c.in_err-here.was _ c.from_residual.ensures.1 ∙ text_of a.nest _

pub loop-here-smaller : goal.loop-here-smaller
loop-here-smaller c = let a = c.args in scan-less (texts-of a.nest) a.kinds.now a.code.now _ _ c.loop-here.invariant (text-goes (deeper form a.nest) a.kinds.now a.code.now _ c.loop-here-test.true) _ (c.piece.ensures ∙ add-got (deeper form a.nest) _) c.in_ok-here.was

pub loop-here-preserved : goal.loop-here-preserved
loop-here-preserved c = let a = c.args in scan-again (texts-of a.nest) a.kinds.now a.code.now _ _ c.loop-here.invariant (text-goes (deeper form a.nest) a.kinds.now a.code.now _ c.loop-here-test.true) _ (c.piece.ensures ∙ add-got (deeper form a.nest) _) c.in_ok-here.was

pub returns : goal.returns
returns c = let a = c.args in scan-ends (texts-of a.nest) a.kinds.now a.code.now _ _ c.loop-here.invariant (text-stops (deeper form a.nest) a.kinds.now a.code.now _ c.loop-here-test.false) ∙ text_of a.nest _
