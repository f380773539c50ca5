use mathlib.Core.Bool.{◌||◌}
use Rattle.conditions.specs.Words.{is_relation}
use Rattle.conditions.proofs.relates.Goals as goal

pub returns : goal.returns
unfolding is_relation
returns c = λ kinds. λ i. ((((c.two_letters.ensures kinds i || c.two_letters-2.ensures kinds i) || c.two_letters-3.ensures kinds i) || c.two_letters-4.ensures kinds i) || c.two_letters-5.ensures kinds i) || c.two_letters-6.ensures kinds i
