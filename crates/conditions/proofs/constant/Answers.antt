use mathlib.Core.Path.{◌∙◌}
use Rattle.grammar.proofs.Answers.{tells_at, tells-broken}
use Rattle.conditions.proofs.Conditions.{constant-is, constant-none}
use Rattle.conditions.proofs.constant.Goals as goal

pub returns-then-c-alone : goal.returns-then-c-alone
returns-then-c-alone c = λ kinds nest inner. tells_at _ _ ∙ constant-is nest inner _ _ (c.text_at-c.ensures kinds) (c.alone.ensures kinds) c.if-c-alone.true

pub returns-else-c-alone : goal.returns-else-c-alone
returns-else-c-alone c = λ kinds nest inner. tells-broken _ _ ∙ constant-none nest inner _ _ (c.text_at-c.ensures kinds) (c.alone.ensures kinds) c.if-c-alone.false
