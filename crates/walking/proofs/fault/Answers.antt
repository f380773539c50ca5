-- `walking::fault` meets its contract: the line's own refusal, and the limit of lines. Assumes nothing.
use mathlib.Core.Path.{ap, sym, ◌∙◌}
use Rattle.refusals.specs.Numbers.{number_by}
use Rattle.refusals.proofs.Apart.{numbered-from-1}
use Rattle.walking.proofs.Lines.{limit-other, limit-passed, limit-kept}
use Rattle.walking.proofs.fault.Goals as goal

pub returns-in-Some : goal.returns-in-Some
returns-in-Some c = λ a f. limit-other _ _ _ _ _ _ _ a f _ _ _ (ap number_by (sym c.in-Some.is) ∙ c.own_fault.ensures a f) (numbered-from-1 c.in-Some.found)

pub returns-then-walk-ge-LINES : goal.returns-then-walk-ge-LINES
returns-then-walk-ge-LINES c = λ a f. limit-passed _ _ _ _ _ _ _ a f _ _ _ (c.own_fault.ensures a f) (ap number_by c.in-None.is) c.if-walk-ge-LINES.true

pub returns-else-walk-ge-LINES : goal.returns-else-walk-ge-LINES
returns-else-walk-ge-LINES c = λ a f. limit-kept _ _ _ _ _ _ _ a f _ _ _ (c.own_fault.ensures a f) (ap number_by c.in-None.is) c.if-walk-ge-LINES.false
