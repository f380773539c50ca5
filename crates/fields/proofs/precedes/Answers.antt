use mathlib.Core.Path.{refl}
use Rattle.fields.specs.Seen.{precedes}
use Rattle.fields.proofs.precedes.Goals as goal

pub returns : goal.returns
unfolding precedes
returns c = refl
