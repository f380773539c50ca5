use mathlib.Core.Path.{ap, ◌∙◌}
use Rattle.kinds.specs.Kinds.{kind_for}
use Rattle.value_references.specs.Referring.{listed}
use Rattle.value_references.proofs.Standing.{is-kind, not-parameter, not-list}
use Rattle.value_references.proofs.Parts.{text-parameter, list-basis, text-list, text-other}
use Rattle.value_references.proofs.part_place.Goals as goal

pub returns-in-Parameter : goal.returns-in-Parameter
returns-in-Parameter c cell e p b = c.of_parameter.ensures ∙ text-parameter cell _ _ (is-kind e c.in-Parameter.is) b

pub returns-in-List : goal.returns-in-List
returns-in-List c cell e p b = let k = is-kind e c.in-List.is in c.of_list.ensures _ (list-basis cell (listed c.args.subscripts) _ k b) ∙ text-list cell (listed c.args.subscripts) k

pub returns-in-Symbol : goal.returns-in-Symbol
returns-in-Symbol c cell e p b = c.whole.ensures ∙ text-other cell _ _ p (λ z. not-parameter c.in-Symbol.is (e ∙ ap kind_for z)) (λ z. not-list c.in-Symbol.is (e ∙ ap kind_for z)) b
