-- `statements::is_named` meets its contract: the bytes behind the period of its name are compared. Assumes nothing.
use mathlib.Core.Path.{sym, ◌∙◌}
use Rattle.statements.proofs.Symbols.{sequence-there}
use Rattle.statements.proofs.Parts.{not_named, named-as}
use Rattle.statements.proofs.is_named.Goals as goal

pub returns-then-not-is_sequence : goal.returns-then-not-is_sequence
returns-then-not-is_sequence c = not_named _ _ _ c.name_of-name.ensures (sym c.is_sequence.ensures ∙ c.if-not-is_sequence.true)

pub slice_bounds-equal-count : goal.slice_bounds-equal-count
slice_bounds-equal-count c = sequence-there _ (sym c.is_sequence.ensures ∙ c.if-not-is_sequence.false)

pub slice_bounds-equal-start : goal.slice_bounds-equal-start
slice_bounds-equal-start c = sequence-there _ (sym c.is_sequence.ensures ∙ c.if-not-is_sequence.false)

pub returns : goal.returns
returns c = c.equal.ensures ∙ named-as _ _ _ c.name_of-name.ensures (sym c.is_sequence.ensures ∙ c.if-not-is_sequence.false)
