use mathlib.Core.Path.{◌∙◌}
use Rattle.rules.specs.Grammar.{compared_numbers}
use Rattle.rules.specs.Form.{form}
use Rattle.grammar.specs.Tokens.{toks_at}
use Rattle.grammar.proofs.Answers.{then-on, then-off}
use Rattle.conditions.proofs.numbers.Goals as goal

pub returns : goal.returns
returns c = let a = c.args in λ inner. c.compared_numbers.ensures inner ∙ then-on (toks_at a.kinds.now a.code.now) (compared_numbers form a.nest inner (toks_at a.kinds.now a.code.now a.at)) c.arithmetic.ensures c.in_ok-end.was

pub returns-in_err-end : goal.returns-in_err-end
returns-in_err-end c = let a = c.args in λ inner. then-off (toks_at a.kinds.now a.code.now) (compared_numbers form a.nest inner (toks_at a.kinds.now a.code.now a.at)) c.arithmetic.ensures c.in_err-end.was _ c.from_residual.ensures.1
