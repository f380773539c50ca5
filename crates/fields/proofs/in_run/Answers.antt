-- `fields::in_run` meets its contract. Assumes nothing.
use mathlib.Core.Path.{sym}
use Rattle.rules.specs.Fields.{is_space, is_no_space}
use Rattle.rules.proofs.Choices.{chosen, passed_over}
use Rattle.fields.specs.Cuts.{in_run}
use Rattle.fields.proofs.in_run.Goals as goal

pub returns-then-spaces : goal.returns-then-spaces
unfolding in_run is_space
returns-then-spaces c = sym (chosen _ _ c.if-spaces.true)

pub returns : goal.returns
unfolding in_run is_no_space
returns c = sym (passed_over _ _ c.if-spaces.false)
