-- `closed` meets its contract. Assumes nothing.
use mathlib.Core.Path.{ap, sym, ◌∙◌}
use Rattle.rules.specs.Grammar.{closed}
use Rattle.value_sums.specs.Answers.{toks_by, tells_by}
use Rattle.value_sums.proofs.Answers.{number-read, number-stops, told-number, closed-as}
use Rattle.value_comparisons.specs.Truths.{truth_in}
use Rattle.value_comparisons.proofs.closed.Goals as goal

pub returns-in_err-so_far : goal.returns-in_err-so_far
returns-in_err-so_far c held = number-stops truth_in (toks_by held c.args.code.now) closed truth_in c.in_err-so_far.was _ c.from_residual.ensures.1

pub returns : goal.returns
returns c held = ap (tells_by truth_in (toks_by held c.args.code.now)) c.by_number.ensures ∙ told-number truth_in (toks_by held c.args.code.now) _ ∙ closed-as truth_in (toks_by held c.args.code.now) _ _ _ (c.closed.ensures held) ∙ sym (number-read truth_in (toks_by held c.args.code.now) closed c.in_ok-so_far.was)
