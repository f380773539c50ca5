use Rattle.forms.proofs.Pairing.{end_none, end-at}
use Rattle.forms.proofs.condition_end.Goals as goal

pub returns-then-text_at-ne40 : goal.returns-then-text_at-ne40
returns-then-text_at-ne40 c = λ kinds. end_none _ (c.text_at.ensures kinds) c.if-text_at-ne40.true

pub returns : goal.returns
returns c = λ kinds. end-at _ (c.text_at.ensures kinds) c.if-text_at-ne40.false (c.pair_at.ensures.0 kinds)
