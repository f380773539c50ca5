use Rattle.deck_reading.proofs.Readers.{field-read}
use Rattle.deck_reading.proofs.read_field.Goals as goal

pub returns : goal.returns
returns c = field-read _ _ _ c.run_below.ensures
