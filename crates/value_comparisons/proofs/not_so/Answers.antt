-- `not_so` meets its contract. Assumes nothing.
use Rattle.value_sums.proofs.Answers.{number-stops}
use Rattle.value_comparisons.specs.Truths.{truth_in, cutting}
use Rattle.value_comparisons.proofs.Answered.{then-made}
use Rattle.value_comparisons.proofs.not_so.Goals as goal

pub returns-in_err-read : goal.returns-in_err-read
returns-in_err-read c from = number-stops truth_in from _ truth_in c.in_err-read.was _ c.from_residual.ensures.1

pub returns : goal.returns
returns c from = then-made from c.in_ok-read.was cutting.negated _ c.negated.ensures
