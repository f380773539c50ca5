-- `seen_after` meets its contract. Assumes nothing.
use Rattle.good_decks.proofs.Walking.{seen-actr, seen_other}
use Rattle.good_decks.proofs.seen_after.Goals as goal

pub returns-then-does_count : goal.returns-then-does_count
returns-then-does_count c = seen-actr _ _ c.may_precede.ensures (c.does_count.ensures _ c.does_at.ensures) c.if-does_count.true

pub returns : goal.returns
returns c = seen_other _ _ c.may_precede.ensures (c.does_count.ensures _ c.does_at.ensures) c.if-does_count.false
