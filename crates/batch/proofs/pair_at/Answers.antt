-- `batch::pair_at` meets its contract. Assumes nothing.
use mathlib.Core.Path.{sym, ◌∙◌}
use Rattle.batch.proofs.Cases.{pair-both, pair_one, pair-none}
use Rattle.batch.proofs.pair_at.Goals as goal

pub returns-in_err-first : goal.returns-in_err-first
returns-in_err-first c = c.from_residual.ensures ∙ sym (pair-none _ _ _ (sym c.number_at.ensures ∙ c.in_err-first.was))

pub returns-in_err-second : goal.returns-in_err-second
returns-in_err-second c =
    c.from_residual-in_err-second.ensures ∙ sym (pair_one _ _ _ (sym c.number_at.ensures ∙ c.in_ok-first.was) (sym c.number_at-2.ensures ∙ c.in_err-second.was))

pub returns : goal.returns
returns c = sym (pair-both _ _ _ (sym c.number_at.ensures ∙ c.in_ok-first.was) (sym c.number_at-2.ensures ∙ c.in_ok-second.was))
