-- `is_edge` meets its contract. Assumes nothing.
use Rattle.value_sublists.specs.Entries.{edges}
use borrow.Author.Rules.{rules}
use Rattle.value_sublists.proofs.is_edge.Goals as goal

pub returns : goal.returns
unfolding edges
returns c = search rules
