use Rattle.grammar.proofs.Texts.{past-is}
use Rattle.grammar.proofs.past_period.Goals as goal

pub returns : goal.returns
returns c = λ kinds. past-is kinds _ _ (c.after_byte.ensures kinds) c.unwrap_or.ensures
