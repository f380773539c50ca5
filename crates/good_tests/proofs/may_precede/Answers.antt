use Rattle.good_tests.proofs.Order.{passes-leads, text-leads, other-leads}
use Rattle.good_tests.proofs.may_precede.Goals as goal

pub returns-in-Passes : goal.returns-in-Passes
returns-in-Passes c = passes-leads c.args.text.now c.args.does c.in-Passes.is

pub returns-in-Text : goal.returns-in-Text
returns-in-Text c = text-leads c.args.text.now c.args.does c.in-Text.is c.is_copied_remark.ensures

pub returns-in-Ends : goal.returns-in-Ends
returns-in-Ends c = other-leads c.args.text.now c.args.does c.in-Ends.is
