use mathlib.Core.Path.{ap, ◌∙◌}
use Rattle.rules.specs.Grammar.{compared_strings}
use Rattle.rules.specs.Form.{form}
use Rattle.grammar.specs.Tokens.{toks_at}
use Rattle.grammar.proofs.Answers.{then-on, then-off}
use Rattle.conditions.proofs.Conditions.{in_strings}
use Rattle.conditions.proofs.strings.Goals as goal

pub returns : goal.returns
returns c = let a = c.args in λ inner. c.compared_strings.ensures inner ∙ ap (compared_strings form a.nest inner tt) (c.past_spaces.ensures a.kinds.now) ∙ then-on (toks_at a.kinds.now a.code.now) (in_strings a.nest inner) c.characters.ensures c.in_ok-end.was

pub returns-in_err-end : goal.returns-in_err-end
returns-in_err-end c = let a = c.args in λ inner. then-off (toks_at a.kinds.now a.code.now) (in_strings a.nest inner) c.characters.ensures c.in_err-end.was _ c.from_residual.ensures.1
