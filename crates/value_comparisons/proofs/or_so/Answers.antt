-- `or_so` meets its contract. Assumes nothing.
use Rattle.value_sums.proofs.Answers.{number-stops}
use Rattle.value_comparisons.specs.Truths.{truth_in, cutting}
use Rattle.value_comparisons.proofs.Answered.{then-made}
use Rattle.value_comparisons.proofs.or_so.Goals as goal

pub returns-in_err-right : goal.returns-in_err-right
returns-in_err-right c from = number-stops truth_in from _ truth_in c.in_err-right.was _ c.from_residual.ensures.1

pub returns : goal.returns
returns c from = then-made from c.in_ok-right.was (cutting.either (truth_in c.args.a)) _ c.either.ensures
