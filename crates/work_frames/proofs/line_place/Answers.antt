-- `line_place` meets its contract. Assumes nothing.
use native.Mathlib.Omega.{arith}
use Rattle.work_frames.proofs.Places.{is-behind, is_found, not_there, small-place}
use Rattle.work_frames.proofs.line_place.Goals as goal

pub returns-then-count-line : goal.returns-then-count-line
returns-then-count-line c = (is-behind _ _ c.index-index.ensures _ _ _ c.two_at-count.ensures.0 c.if-count-line.true, λ at e. not_there _ e)

pub returns : goal.returns
returns c = (is_found _ _ c.index-index.ensures _ _ _ c.two_at-count.ensures.0 _ _ c.if-count-line.false c.two_at-first.ensures.0 c.four_at.ensures.0, λ at e. (omega arith, small-place _ at e c.four_at.ensures.1))
