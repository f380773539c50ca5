-- `statements::is_macro` meets its contract: the operation is compared. Assumes nothing.
use mathlib.Core.Path.{ap, ◌∙◌}
use Rattle.text.specs.Bytes.{bytes, same}
use Rattle.rules.specs.Library.{is_macro}
use Rattle.statements.proofs.is_macro.Goals as goal

pub returns : goal.returns
unfolding is_macro
returns c = c.equal.ensures ∙ ap (λ o. same o (bytes "MACRO")) c.operation_of.ensures
