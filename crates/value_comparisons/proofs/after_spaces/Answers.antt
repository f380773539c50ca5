-- `after_spaces` meets its contract. Assumes nothing.
use Rattle.rules.specs.Grammar.{past_spaces}
use Rattle.value_sums.specs.Answers.{toks_by}
use Rattle.value_sums.proofs.Answers.{number-stops}
use Rattle.value_comparisons.specs.Truths.{truth_in}
use Rattle.value_comparisons.proofs.Answered.{then-moved}
use Rattle.value_comparisons.proofs.after_spaces.Goals as goal

pub returns-in_err-read : goal.returns-in_err-read
returns-in_err-read c held = number-stops truth_in (toks_by held c.args.code.now) _ truth_in c.in_err-read.was _ c.from_residual.ensures.1

pub returns : goal.returns
returns c held = then-moved (toks_by held c.args.code.now) c.in_ok-read.was past_spaces _ (c.past_spaces.ensures held)
