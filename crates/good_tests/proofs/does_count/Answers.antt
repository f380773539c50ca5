use Rattle.good_tests.proofs.Order.{counts-told, counts-not}
use Rattle.good_tests.proofs.does_count.Goals as goal

pub returns-in-Counts : goal.returns-in-Counts
returns-in-Counts c = counts-told c.in-Counts.is

pub returns-in_default : goal.returns-in_default
returns-in_default c = counts-not c.in_default.not-Counts
