-- `by_number` meets its contract. Assumes nothing.
use mathlib.Core.Path.{ap, sym, ◌∙◌}
use Rattle.std.specs.Prelude.{Err}
use Rattle.value_sums.specs.Answers.{numbered_read}
use Rattle.value_sums.proofs.by_number.Goals as goal

pub returns-in-Ok : goal.returns-in-Ok
unfolding numbered_read
returns-in-Ok g c = sym (ap numbered_read c.in-Ok.is)

pub returns-in-Err : goal.returns-in-Err
unfolding numbered_read
returns-in-Err g c = ap (λ n. Err (record { number = n; at = c.in-Err.refused.at })) c.from.ensures ∙ sym (ap numbered_read c.in-Err.is)
