use Rattle.value_sums.proofs.Answers.{placed-some, placed-none}
use Rattle.value_sums.proofs.placed.Goals as goal

pub returns-in-Some : goal.returns-in-Some
returns-in-Some g c from = placed-some from _ _ c.in-Some.is

pub returns-in-None : goal.returns-in-None
returns-in-None g c from = placed-none from _ _ c.in-None.is
