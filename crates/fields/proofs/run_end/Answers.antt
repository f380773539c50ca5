use Rattle.std.proofs.Common.{rules, tests}
use Rattle.fields.specs.Cuts.{in_run, run_end}
use Rattle.fields.proofs.run_end.Goals as goal

pub returns-clause-value : goal.returns-clause-value
unfolding run_end
returns-clause-value c = c.run_end.ensures.value (in_run c.args.spaces) (λ b r h. search (rules, tests))
