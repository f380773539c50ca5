-- `does_at` meets its contract: what the first byte is taken as. Assumes nothing.
use Rattle.std.proofs.Common.{◌∙◌, ap}
use Rattle.deck_reading.specs.Reading.{does_taken, line_at}
use Rattle.deck_reading.proofs.Places.{does-told}
use Rattle.deck_reading.proofs.does_at.Goals as goal

pub returns : goal.returns
unfolding line_at
returns c = c.does_taken.ensures.value ∙ (ap does_taken c.byte.ensures ∙ does-told _ c.args.s.now _)
