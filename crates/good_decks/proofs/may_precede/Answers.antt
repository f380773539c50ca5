-- `may_precede` meets its contract. Assumes nothing.
use Rattle.good_decks.proofs.Walking.{precedes-told}
use Rattle.good_decks.proofs.may_precede.Goals as goal

pub returns : goal.returns
returns c = precedes-told _ _ _ c.line_fields-f.ensures c.run_at.ensures c.may_precede.ensures
