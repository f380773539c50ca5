use Rattle.deck_reading.proofs.Readers.{string-read}
use Rattle.deck_reading.proofs.read_string.Goals as goal

pub returns : goal.returns
returns c = string-read _ _ _ c.run_end.ensures
