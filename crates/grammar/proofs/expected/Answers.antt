use Rattle.grammar.proofs.Answers.{expected-is}
use Rattle.grammar.proofs.expected.Goals as goal

pub returns : goal.returns
returns c = λ kinds. expected-is kinds _ _ _ (c.after_byte.ensures kinds) c.ok_or.ensures.value
