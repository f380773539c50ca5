-- `statements::is_mend` meets its contract: the operation is compared. Assumes nothing.
use mathlib.Core.Path.{ap, ◌∙◌}
use Rattle.text.specs.Bytes.{bytes, same}
use Rattle.rules.specs.Library.{is_mend}
use Rattle.statements.proofs.is_mend.Goals as goal

pub returns : goal.returns
unfolding is_mend
returns c = c.equal.ensures ∙ ap (λ o. same o (bytes "MEND")) c.operation_of.ensures
