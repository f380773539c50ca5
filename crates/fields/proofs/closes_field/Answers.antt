use mathlib.Core.Path.{refl}
use Rattle.fields.specs.Seen.{closes_field}
use Rattle.fields.proofs.closes_field.Goals as goal

pub returns : goal.returns
unfolding closes_field
returns c = refl
