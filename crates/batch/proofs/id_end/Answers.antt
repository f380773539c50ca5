use Rattle.std.proofs.Common.{rules, tests}
use Rattle.batch.specs.Format.{is_printable, id_end}
use Rattle.batch.proofs.id_end.Goals as goal

pub returns-clause-value : goal.returns-clause-value
unfolding id_end
returns-clause-value c = c.run_end.ensures.value is_printable (λ b r h. h)
