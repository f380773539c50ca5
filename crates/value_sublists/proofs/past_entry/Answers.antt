-- `past_entry` meets its contract. Assumes nothing.
use Rattle.value_sublists.proofs.Divided.{stays, wanted-ends, other-ends}
use mathlib.Core.Path.{ap}
use mathlib.Core.Bool.{not}
use Rattle.value_sublists.proofs.past_entry.Goals as goal

pub returns-then-not-ends : goal.returns-then-not-ends
returns-then-not-ends c = stays _ _ _ _ (ap not c.if-not-ends.true)

pub returns-then-so_far-n : goal.returns-then-so_far-n
returns-then-so_far-n c = wanted-ends _ _ _ _ (ap not c.if-not-ends.false) c.if-so_far-n.true

pub returns : goal.returns
returns c = other-ends _ _ _ _ (ap not c.if-not-ends.false) c.if-so_far-n.false
