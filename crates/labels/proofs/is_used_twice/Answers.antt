-- `labels::is_used_twice` meets its contract: a sequence symbol is searched for without its period. Assumes nothing.
use mathlib.Core.Path.{sym, ◌∙◌}
use Rattle.statements.proofs.Symbols.{sequence-there}
use Rattle.labels.proofs.Targets.{used-once, used-before}
use Rattle.labels.proofs.is_used_twice.Goals as goal

pub returns-then-not-is_sequence : goal.returns-then-not-is_sequence
returns-then-not-is_sequence c = used-once _ _ (sym c.is_sequence.ensures ∙ c.if-not-is_sequence.true)

pub slice_bounds-any_named-count : goal.slice_bounds-any_named-count
slice_bounds-any_named-count c = sequence-there _ (sym c.is_sequence.ensures ∙ c.if-not-is_sequence.false)

pub slice_bounds-any_named-start : goal.slice_bounds-any_named-start
slice_bounds-any_named-start c = sequence-there _ (sym c.is_sequence.ensures ∙ c.if-not-is_sequence.false)

pub returns : goal.returns
returns c = c.any_named.ensures ∙ used-before _ _ (sym c.is_sequence.ensures ∙ c.if-not-is_sequence.false)
