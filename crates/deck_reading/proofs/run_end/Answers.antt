use mathlib.Core.Path.{◌∙◌, ap}
use Rattle.deck_reading.specs.Reading.{found}
use Rattle.deck_reading.proofs.Runs.{cut_off, goes_on}
use Prim.Native.Nat.{◌+◌}
use Rattle.deck_reading.proofs.run_end.Goals as goal

pub returns-in_err-from : goal.returns-in_err-from
returns-in_err-from c = c.from_residual.ensures ∙ cut_off c.args.s.now c.args.at c.in_err-from.ensures

pub returns : goal.returns
returns c = c.reach-2.ensures ∙ (ap (λ n. found c.args.s.now (c.in_ok-from.from + n)) c.two_at.ensures.0 ∙ goes_on c.args.s.now c.args.at c.in_ok-from.ensures)
