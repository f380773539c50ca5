use Rattle.std.proofs.Common.{rules, tests}
use Rattle.text.specs.Characters.{letter_or_digit}
use Rattle.chars.specs.Ends.{symbol_end}
use Rattle.chars.proofs.symbol_end.Goals as goal

pub returns-clause-value : goal.returns-clause-value
unfolding symbol_end
returns-clause-value c = c.run_end.ensures.value letter_or_digit (λ b r h. h)
