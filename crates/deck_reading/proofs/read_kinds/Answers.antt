use Rattle.deck_reading.proofs.Readers.{kinds-read}
use Rattle.deck_reading.proofs.read_kinds.Goals as goal

pub returns : goal.returns
returns c = kinds-read _ _ _ c.run_below.ensures
