-- `is_placed` meets its contract. Assumes nothing.
use mathlib.Core.Path.{refl}
use Rattle.good_decks.proofs.Walking.{line-placed}
use Rattle.good_decks.proofs.is_placed.Goals as goal

pub returns : goal.returns
returns c globals h known = line-placed _ globals h known _ _ _ _ refl _ _ _ c.ends_where.ensures c.counts_where.ensures c.is_good_line.ensures
