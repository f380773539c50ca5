use mathlib.Core.Bool.{◌&&◌}
use Rattle.deck.specs.AsRead.{is_word_field}
use Rattle.good_reading.proofs.is_word_field.Goals as goal

pub returns : goal.returns
unfolding is_word_field
returns c = λ i. c.is_field-field.ensures i && c.is_spaceless-spaceless.ensures i
