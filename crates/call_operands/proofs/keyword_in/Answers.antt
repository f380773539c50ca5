use Rattle.call_operands.proofs.Written.{keyword-told}
use Rattle.call_operands.proofs.keyword_in.Goals as goal

pub returns : goal.returns
returns c = keyword-told c.args.part.now _ c.bare_at-end.ensures.value _ c.min-behind.ensures
