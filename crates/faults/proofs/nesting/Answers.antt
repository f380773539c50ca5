-- `faults::nesting` meets its contract. Assumes nothing.
use mathlib.Core.Path.{refl}
use Rattle.checking.specs.Body.{nesting_of}
use Rattle.faults.proofs.nesting.Goals as goal

pub returns : goal.returns
unfolding nesting_of
returns c = refl
