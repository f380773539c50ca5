use mathlib.Core.Path.{◌∙◌}
use Rattle.rules.specs.Grammar.{closed, deeper}
use Rattle.rules.specs.Form.{form}
use Rattle.grammar.specs.Tokens.{toks_at}
use Rattle.grammar.proofs.Answers.{tells_at, then-on, then-off}
use Rattle.grammar.proofs.Quotes.{count_by, comma_by, part-none, part-opens}
use Rattle.grammar.proofs.substring.Goals as goal

pub returns-in-None : goal.returns-in-None
returns-in-None c = let a = c.args in λ here. tells_at _ _ ∙ part-none (deeper form a.nest) a.kinds.now a.code.now _ (c.after_byte.ensures a.kinds.now) here c.in-None.is

pub returns-in_err-start-in-Some : goal.returns-in_err-start-in-Some
returns-in_err-start-in-Some c = let a = c.args in λ here. then-off (toks_at a.kinds.now a.code.now) (comma_by (deeper form a.nest)) c.inner.ensures c.in_err-start-in-Some.was _ c.from_residual.ensures.1 ∙ part-opens (deeper form a.nest) a.kinds.now a.code.now _ (c.after_byte.ensures a.kinds.now) here c.in-Some.is

pub returns-in_err-second-in-Some : goal.returns-in_err-second-in-Some
returns-in_err-second-in-Some c = let a = c.args in λ here. then-off (toks_at a.kinds.now a.code.now) (count_by (deeper form a.nest)) (c.expected.ensures a.kinds.now) c.in_err-second-in-Some.was _ c.from_residual-in_err-second-in-Some.ensures.1 ∙ then-on (toks_at a.kinds.now a.code.now) (comma_by (deeper form a.nest)) c.inner.ensures c.in_ok-start-in-Some.was ∙ part-opens (deeper form a.nest) a.kinds.now a.code.now _ (c.after_byte.ensures a.kinds.now) here c.in-Some.is

pub returns-in_err-inner-in-Some : goal.returns-in_err-inner-in-Some
returns-in_err-inner-in-Some c = let a = c.args in λ here. then-off (toks_at a.kinds.now a.code.now) closed c.inner-in-Some.ensures c.in_err-inner-in-Some.was _ c.from_residual-in_err-inner-in-Some.ensures.1 ∙ then-on (toks_at a.kinds.now a.code.now) (count_by (deeper form a.nest)) (c.expected.ensures a.kinds.now) c.in_ok-second-in-Some.was ∙ then-on (toks_at a.kinds.now a.code.now) (comma_by (deeper form a.nest)) c.inner.ensures c.in_ok-start-in-Some.was ∙ part-opens (deeper form a.nest) a.kinds.now a.code.now _ (c.after_byte.ensures a.kinds.now) here c.in-Some.is

pub returns-in_ok-inner-in-Some : goal.returns-in_ok-inner-in-Some
returns-in_ok-inner-in-Some c = let a = c.args in λ here. c.closed.ensures a.kinds.now ∙ then-on (toks_at a.kinds.now a.code.now) closed c.inner-in-Some.ensures c.in_ok-inner-in-Some.was ∙ then-on (toks_at a.kinds.now a.code.now) (count_by (deeper form a.nest)) (c.expected.ensures a.kinds.now) c.in_ok-second-in-Some.was ∙ then-on (toks_at a.kinds.now a.code.now) (comma_by (deeper form a.nest)) c.inner.ensures c.in_ok-start-in-Some.was ∙ part-opens (deeper form a.nest) a.kinds.now a.code.now _ (c.after_byte.ensures a.kinds.now) here c.in-Some.is
