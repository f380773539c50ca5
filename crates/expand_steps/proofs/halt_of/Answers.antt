-- `halt_of` meets its contract: each number by its arm, and a number of no arm is none of these. Assumes nothing.
use Rattle.std.proofs.Common.{rules, tests, ◌≤◌, ◌∙◌, ap, sym}
use Rattle.rules.specs.Choice.{choose}
use Rattle.expand_steps.specs.Runs.{halt_found}
use Rattle.expand_steps.proofs.Found.{found-refused}
use Rattle.expand_steps.proofs.halt_of.Goals as goal

pub returns-in-0 : goal.returns-in-0
unfolding halt_found choose
returns-in-0 c = sym (ap (λ n. halt_found n c.args.at) c.in-0.is)

pub returns-in-1-to-15 : goal.returns-in-1-to-15
returns-in-1-to-15 c =
    let low : 1 ≤ c.args.number = search rules in
    let high : c.args.number ≤ 15 = search rules in
    sym (found-refused c.fault_of.result c.args.at) ∙ ap (λ n. halt_found n c.args.at) (c.fault_of.ensures low high)

pub returns-in-16 : goal.returns-in-16
unfolding halt_found choose
returns-in-16 c = sym (ap (λ n. halt_found n c.args.at) c.in-16.is)

pub returns-in-254 : goal.returns-in-254
unfolding halt_found choose
returns-in-254 c = sym (ap (λ n. halt_found n c.args.at) c.in-254.is)

pub returns-in-255 : goal.returns-in-255
unfolding halt_found choose
returns-in-255 c = sym (ap (λ n. halt_found n c.args.at) c.in-255.is)

pub returns-in_default : goal.returns-in_default
unfolding halt_found choose
returns-in_default c = search (tests, rules)
