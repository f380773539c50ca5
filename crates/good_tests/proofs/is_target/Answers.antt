use borrow.Author.Rules.{rules}
use Rattle.deck.specs.Good.{is_target}
use Rattle.good_tests.proofs.is_target.Goals as goal

pub returns : goal.returns
unfolding is_target
returns c = search rules
