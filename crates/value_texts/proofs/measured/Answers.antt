-- `measured` meets its contract. Assumes nothing.
use Rattle.value_texts.proofs.Cuts.{measured-code}
use Rattle.value_texts.proofs.measured.Goals as goal

pub returns : goal.returns
returns c out = measured-code out _
