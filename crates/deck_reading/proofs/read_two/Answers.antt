use Rattle.deck_reading.proofs.Readers.{two-read}
use Rattle.deck_reading.proofs.read_two.Goals as goal

pub returns : goal.returns
returns c = two-read _ _ _ c.reach.ensures
