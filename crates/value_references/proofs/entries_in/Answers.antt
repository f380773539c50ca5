use mathlib.Core.Path.{ap, ◌∙◌}
use mathlib.Core.Option.{some}
use native.Mathlib.Omega.{arith}
use lib.IntN.{pos}
use mir.Syntax.{w32}
use mir.ValLaws.{to_z_pos}
use Rattle.rules.specs.Values.{number_of_entries}
use Rattle.value_sums.proofs.Answers.{option-none, option-some}
use Rattle.value_sublists.proofs.Divided.{entries-few}
use Rattle.value_references.proofs.Parts.{found-then, none-then, some-small}
use Rattle.value_references.proofs.entries_in.Goals as goal

pub returns-in_err-text : goal.returns-in_err-text
returns-in_err-text c = rw c.from_residual.ensures (option-none ∙ none-then (λ t. some (pos (number_of_entries t))) c.in_err-text.was)

pub overflow_cast-result : goal.overflow_cast-result
overflow_cast-result c = let small = some-small c.in_ok-text.was c.requires in let few = entries-few c.in_ok-text.field-0.now in let e = c.entry_count.ensures in omega arith

pub returns : goal.returns
returns c = let small = some-small c.in_ok-text.was c.requires in let few = entries-few c.in_ok-text.field-0.now in let e = c.entry_count.ensures in
    rw (to_z_pos w32 c.entry_count.result (omega arith)) (option-some _ ∙ ap (λ n. some (pos n)) e ∙ found-then (λ t. some (pos (number_of_entries t))) c.in_ok-text.was)
