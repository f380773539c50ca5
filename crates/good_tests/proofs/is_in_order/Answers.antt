use Rattle.good_tests.proofs.Order.{text-order, target-order, other-order}
use Rattle.good_tests.proofs.is_in_order.Goals as goal

pub returns-in-Text : goal.returns-in-Text
returns-in-Text c = let a = c.args in text-order a.text.now a.target a.actr a.count a.does c.in-Text.is c.is_text.ensures

pub returns-in-BranchesIf : goal.returns-in-BranchesIf
returns-in-BranchesIf c = let a = c.args in target-order a.text.now a.target a.actr a.count a.does c.in-BranchesIf.is c.is_target.ensures

pub returns-in-Passes : goal.returns-in-Passes
returns-in-Passes c = let a = c.args in other-order a.text.now a.target a.actr a.count a.does c.in-Passes.is
