use mathlib.Core.Path.{ap, sym, ◌∙◌}
use Rattle.rules.specs.Grammar.{closed}
use Rattle.value_sums.specs.Answers.{toks_by, tells_by}
use Rattle.value_sums.proofs.Answers.{number-read, number-stops, told-number}
use Rattle.value_sums.proofs.closed_so.Goals as goal

pub returns-in_err-so_far : goal.returns-in_err-so_far
returns-in_err-so_far g c held = number-stops (λ v. v) (toks_by held c.args.code.now) closed (λ v. v) c.in_err-so_far.was _ c.from_residual.ensures.1

pub returns : goal.returns
returns g c held = ap (tells_by (λ v. v) (toks_by held c.args.code.now)) c.by_number.ensures ∙ told-number (λ v. v) (toks_by held c.args.code.now) _ ∙ c.closed.ensures held ∙ sym (number-read (λ v. v) (toks_by held c.args.code.now) closed c.in_ok-so_far.was)
