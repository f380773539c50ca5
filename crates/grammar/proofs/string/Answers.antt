use mathlib.Core.Path.{◌∙◌}
use Rattle.rules.specs.Grammar.{deeper, substringed}
use Rattle.rules.specs.Form.{form}
use Rattle.grammar.specs.Tokens.{toks_at}
use Rattle.grammar.proofs.Answers.{then-on, then-off}
use Rattle.grammar.proofs.Quotes.{closing_by, text_by, string-is}
use Rattle.grammar.proofs.string.Goals as goal

pub returns-in_err-start : goal.returns-in_err-start
returns-in_err-start c = let a = c.args in then-off (toks_at a.kinds.now a.code.now) (text_by (deeper form a.nest) (toks_at a.kinds.now a.code.now a.at)) (c.expected.ensures a.kinds.now) c.in_err-start.was _ c.from_residual.ensures.1 ∙ string-is (deeper form a.nest) (toks_at a.kinds.now a.code.now a.at)

pub returns-in_err-end : goal.returns-in_err-end
returns-in_err-end c = let a = c.args in then-off (toks_at a.kinds.now a.code.now) (closing_by (deeper form a.nest) (toks_at a.kinds.now a.code.now a.at)) c.quoted.ensures c.in_err-end.was _ c.from_residual-in_err-end.ensures.1 ∙ then-on (toks_at a.kinds.now a.code.now) (text_by (deeper form a.nest) (toks_at a.kinds.now a.code.now a.at)) (c.expected.ensures a.kinds.now) c.in_ok-start.was ∙ string-is (deeper form a.nest) (toks_at a.kinds.now a.code.now a.at)

pub returns-in_err-expected : goal.returns-in_err-expected
returns-in_err-expected c = let a = c.args in then-off (toks_at a.kinds.now a.code.now) (substringed form (deeper form a.nest) (toks_at a.kinds.now a.code.now a.at)) (c.expected-2.ensures a.kinds.now) c.in_err-expected.was _ c.from_residual-in_err-expected.ensures.1 ∙ then-on (toks_at a.kinds.now a.code.now) (closing_by (deeper form a.nest) (toks_at a.kinds.now a.code.now a.at)) c.quoted.ensures c.in_ok-end.was ∙ then-on (toks_at a.kinds.now a.code.now) (text_by (deeper form a.nest) (toks_at a.kinds.now a.code.now a.at)) (c.expected.ensures a.kinds.now) c.in_ok-start.was ∙ string-is (deeper form a.nest) (toks_at a.kinds.now a.code.now a.at)

pub returns : goal.returns
returns c = let a = c.args in c.substring.ensures (toks_at a.kinds.now a.code.now a.at) ∙ then-on (toks_at a.kinds.now a.code.now) (substringed form (deeper form a.nest) (toks_at a.kinds.now a.code.now a.at)) (c.expected-2.ensures a.kinds.now) c.in_ok-expected.was ∙ then-on (toks_at a.kinds.now a.code.now) (closing_by (deeper form a.nest) (toks_at a.kinds.now a.code.now a.at)) c.quoted.ensures c.in_ok-end.was ∙ then-on (toks_at a.kinds.now a.code.now) (text_by (deeper form a.nest) (toks_at a.kinds.now a.code.now a.at)) (c.expected.ensures a.kinds.now) c.in_ok-start.was ∙ string-is (deeper form a.nest) (toks_at a.kinds.now a.code.now a.at)
