use Rattle.std.proofs.Common.{rules, tests}
use Rattle.lines.specs.Ends.{in_line, line_end}
use Rattle.lines.proofs.line_end.Goals as goal

pub returns-clause-value : goal.returns-clause-value
unfolding line_end
returns-clause-value c = c.run_end.ensures.value in_line (λ b r h. search (rules, tests))
