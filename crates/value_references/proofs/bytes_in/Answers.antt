use mathlib.Core.Path.{◌∙◌}
use mathlib.Core.Option.{some}
use native.Mathlib.Omega.{arith}
use lib.IntN.{pos}
use lib.ListN.{length}
use mir.Syntax.{w32}
use mir.ValLaws.{to_z_pos}
use Rattle.value_sums.proofs.Answers.{option-none, option-some}
use Rattle.value_references.proofs.Parts.{found-then, none-then, some-small}
use Rattle.value_references.proofs.bytes_in.Goals as goal

pub returns-in_err-text : goal.returns-in_err-text
returns-in_err-text c = rw c.from_residual.ensures (option-none ∙ none-then (λ t. some (pos (length t))) c.in_err-text.was)

pub returns : goal.returns
returns c = let small = some-small c.in_ok-text.was c.requires in rw (to_z_pos w32 (length c.in_ok-text.field-0.now) (omega arith)) (option-some _ ∙ found-then (λ t. some (pos (length t))) c.in_ok-text.was)
