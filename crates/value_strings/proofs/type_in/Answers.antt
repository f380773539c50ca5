use Rattle.value_strings.proofs.Types.{type-some, type-none}
use Rattle.value_strings.proofs.type_in.Goals as goal

pub returns-in_err-text : goal.returns-in_err-text
returns-in_err-text c = rw c.from_residual.ensures (type-none c.in_err-text.was)

pub returns : goal.returns
returns c = type-some c.in_ok-text.was c.type_of.ensures
