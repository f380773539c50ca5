use mathlib.Core.Path.{ap, sym, ◌∙◌}
use mathlib.Core.Bool.{◌&&◌, not}
use lib.Dec.{eqb}
use Rattle.rules.proofs.Choices.{chosen, passed_over}
use Rattle.fields.specs.Seen.{quoted_after}
use Rattle.fields.proofs.quoted_after.Goals as goal

pub returns-then-c-mark : goal.returns-then-c-mark
unfolding quoted_after
returns-then-c-mark c = sym (chosen _ _ (ap (λ m. eqb c.args.c 39 && not m) (sym c.is_mark-mark.ensures) ∙ c.if-c-mark.true))

pub returns : goal.returns
unfolding quoted_after
returns c = sym (passed_over _ _ (ap (λ m. eqb c.args.c 39 && not m) (sym c.is_mark-mark.ensures) ∙ c.if-c-mark.false))
