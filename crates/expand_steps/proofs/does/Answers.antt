-- `does` meets its contract: by the kind of the line. Assumes nothing.
use mathlib.Core.Path.{ap, ◌∙◌, sym}
use mathlib.Core.Logic.{⊎_elim}
use Rattle.rules.specs.Decide.{jump}
use Rattle.expand_steps.proofs.Deciding.{act-passes, act-ends, act-exits, act-branches, arm-as, unready-arm}
use Rattle.expand_steps.proofs.does.Goals as goal

pub returns-in-Passes : goal.returns-in-Passes
returns-in-Passes c = λ f. arm-as _ _ (act-passes _ _ f c.in-Passes.is) c.passes.ensures

pub returns-in-Ends : goal.returns-in-Ends
returns-in-Ends c = λ f. arm-as _ _ (⊎_elim (act-ends _ _ f) (act-exits _ _ f) c.in-Ends.is) c.leaves.ensures

pub returns-in-Branches : goal.returns-in-Branches
returns-in-Branches c = λ f. arm-as _ _ (act-branches _ _ f c.in-Branches.is ∙ ap jump (sym c.two_at.ensures.0)) c.branches.ensures

pub returns-in-Text : goal.returns-in-Text
returns-in-Text c = λ f. unready-arm _ _ _ c.stop.ensures
