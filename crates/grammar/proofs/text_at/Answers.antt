use mathlib.Core.Path.{◌∙◌}
use Rattle.grammar.proofs.Places.{plain-text, plain-none}
use Rattle.grammar.proofs.text_at.Goals as goal

pub returns-then-b-lt127 : goal.returns-then-b-lt127
returns-then-b-lt127 c = λ kinds. c.byte-b.ensures ∙ plain-text kinds _ _ (rw (← c.byte-b.ensures) c.if-b-lt127.true)

pub returns-else-b-lt127 : goal.returns-else-b-lt127
returns-else-b-lt127 c = λ kinds. plain-none kinds _ _ (rw (← c.byte-b.ensures) c.if-b-lt127.false)
