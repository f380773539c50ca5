-- `ends_where` meets its contract. Assumes nothing.
use Rattle.good_decks.proofs.Walking.{last_line, inner-line}
use Rattle.good_decks.proofs.ends_where.Goals as goal

pub returns-then-seen-count : goal.returns-then-seen-count
returns-then-seen-count c = last_line _ _ _ (c.does_end-ends.ensures _ c.does_at.ensures) c.if-seen-count.true

pub returns : goal.returns
returns c = inner-line _ _ _ (c.does_end-ends.ensures _ c.does_at.ensures) c.if-seen-count.false
