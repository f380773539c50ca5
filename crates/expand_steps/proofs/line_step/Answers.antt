-- `line_step` meets its contract: a text line, or one that writes nothing. Assumes nothing.
use Rattle.expand_steps.proofs.Deciding.{text-line, arms-write}
use Rattle.expand_steps.proofs.line_step.Goals as goal

pub returns-in-Text : goal.returns-in-Text
returns-in-Text c = text-line c.args.deck.now c.args.at _ _ _ _ _ c.args.run _ c.line_fields-line.ensures c.in-Text.is c.uses_text.ensures

pub returns-in_default : goal.returns-in_default
returns-in_default c = arms-write c.args.deck.now c.args.at _ _ _ c.args.run _ c.line_fields-line.ensures c.does.ensures
