use Rattle.good_tests.proofs.Order.{ends-told, ends-not}
use Rattle.good_tests.proofs.does_end.Goals as goal

pub returns-in-Ends : goal.returns-in-Ends
returns-in-Ends c = ends-told c.in-Ends.is

pub returns-in_default : goal.returns-in_default
returns-in_default c = ends-not c.in_default.not-Ends
