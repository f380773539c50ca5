-- `span` meets its contract. Assumes nothing.
use mathlib.Core.Path.{◌∙◌}
use Rattle.spans.proofs.Cuts.{from-deck, from-work}
use Rattle.spans.proofs.span.Goals as goal

pub returns-then-in_deck : goal.returns-then-in_deck
returns-then-in_deck c = c.part.ensures ∙ from-deck _ _ _ _ _ c.if-in_deck.true

pub returns : goal.returns
returns c = c.part-2.ensures ∙ from-work _ _ _ _ _ c.if-in_deck.false
