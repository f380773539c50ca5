-- `counts_where` meets its contract. Assumes nothing.
use Rattle.good_decks.proofs.Walking.{counts-here}
use Rattle.good_decks.proofs.counts_where.Goals as goal

pub returns : goal.returns
returns c = counts-here _ _ (c.does_count.ensures _ c.does_at.ensures)
