use mathlib.Core.Bool.{◌&&◌}
use Rattle.deck.specs.AsRead.{is_operand}
use Rattle.good_reading.proofs.is_operand.Goals as goal

pub returns : goal.returns
unfolding is_operand
returns c = λ i. c.is_field-field.ensures i && c.is_endless-endless.ensures i
