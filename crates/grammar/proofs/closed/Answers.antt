use Rattle.rules.specs.Grammar.{closed}
use Rattle.grammar.specs.Operands.{expected}
use Rattle.grammar.proofs.closed.Goals as goal

pub returns : goal.returns
unfolding closed expected
returns c = c.expected.ensures
