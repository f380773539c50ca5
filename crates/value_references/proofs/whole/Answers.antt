use Rattle.value_references.proofs.Parts.{all-in}
use Rattle.value_references.proofs.whole.Goals as goal

pub returns : goal.returns
returns c = all-in c.args.s.now
