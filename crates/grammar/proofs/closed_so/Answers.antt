-- `closed_so` meets its contract: a refusal is handed on. Assumes nothing.
use Rattle.std.proofs.Common.{refl, ◌∙◌}
use Rattle.rules.specs.Grammar.{closed}
use Rattle.grammar.specs.Tokens.{toks_at}
use Rattle.grammar.proofs.Answers.{then-on, then-off}
use Rattle.grammar.proofs.closed_so.Goals as goal

pub returns-in_err-so_far : goal.returns-in_err-so_far
returns-in_err-so_far c = λ kinds. then-off (toks_at kinds c.args.code.now) closed refl c.in_err-so_far.was _ c.from_residual.ensures.1

pub returns : goal.returns
returns c = λ kinds. c.closed.ensures kinds ∙ then-on (toks_at kinds c.args.code.now) closed refl c.in_ok-so_far.was
