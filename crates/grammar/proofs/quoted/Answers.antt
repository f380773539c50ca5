use mathlib.Core.Path.{◌∙◌, sym}
use Rattle.rules.specs.Grammar.{deeper}
use Rattle.rules.specs.Form.{form}
use Rattle.grammar.proofs.Texts.{scan-starts, scan-ends, scan-less, scan-again, scan-fails}
use Rattle.grammar.proofs.Quotes.{goes-quoted, quotes-of, quoted-of}
use Rattle.grammar.proofs.quoted.Goals as goal

pub loop-here-init : goal.loop-here-init
loop-here-init c = let a = c.args in scan-starts (quotes-of a.nest) a.kinds.now a.code.now _

pub returns-in_err-here : goal.returns-in_err-here
returns-in_err-here c = let a = c.args in scan-fails (quotes-of a.nest) a.kinds.now a.code.now _ _ c.loop-here.invariant (sym (c.more_quoted.ensures a.kinds.now (deeper form a.nest) ∙ goes-quoted (deeper form a.nest) _) ∙ c.loop-here-test.true) _ c.quoted_piece.ensures c.in_err-here.was _ c.from_residual.ensures.1 ∙ quoted-of a.nest _

pub loop-here-smaller : goal.loop-here-smaller
loop-here-smaller c = let a = c.args in scan-less (quotes-of a.nest) a.kinds.now a.code.now _ _ c.loop-here.invariant (sym (c.more_quoted.ensures a.kinds.now (deeper form a.nest) ∙ goes-quoted (deeper form a.nest) _) ∙ c.loop-here-test.true) _ c.quoted_piece.ensures c.in_ok-here.was

pub loop-here-preserved : goal.loop-here-preserved
loop-here-preserved c = let a = c.args in scan-again (quotes-of a.nest) a.kinds.now a.code.now _ _ c.loop-here.invariant (sym (c.more_quoted.ensures a.kinds.now (deeper form a.nest) ∙ goes-quoted (deeper form a.nest) _) ∙ c.loop-here-test.true) _ c.quoted_piece.ensures c.in_ok-here.was

pub returns : goal.returns
returns c = let a = c.args in scan-ends (quotes-of a.nest) a.kinds.now a.code.now _ _ c.loop-here.invariant (sym (c.more_quoted.ensures a.kinds.now (deeper form a.nest) ∙ goes-quoted (deeper form a.nest) _) ∙ c.loop-here-test.false) ∙ quoted-of a.nest _
