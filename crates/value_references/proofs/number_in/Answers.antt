use mathlib.Core.Path.{◌∙◌}
use Rattle.rules.specs.Values.{number_in}
use Rattle.value_sums.proofs.Answers.{option-none}
use Rattle.value_references.proofs.Parts.{found-then, none-then}
use Rattle.value_references.proofs.number_in.Goals as goal

pub returns-in_err-text : goal.returns-in_err-text
returns-in_err-text c = rw c.from_residual.ensures (option-none ∙ none-then number_in c.in_err-text.was)

pub returns : goal.returns
returns c = c.digits_in.ensures ∙ found-then number_in c.in_ok-text.was
