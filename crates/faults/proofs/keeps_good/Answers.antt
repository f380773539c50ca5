-- `faults::keeps_good` meets its contract. Assumes nothing.
use Rattle.faults.proofs.Tests.{formed-kept}
use Rattle.faults.proofs.keeps_good.Goals as goal

pub returns : goal.returns
returns c = λ d e. formed-kept _ _ _ _ d _ (c.is_formed.ensures d e)
