use Rattle.grammar.proofs.Places.{mark-is}
use Rattle.grammar.proofs.mark_at.Goals as goal

pub returns : goal.returns
returns c = λ kinds. rw c.byte.ensures (mark-is kinds _ _)
