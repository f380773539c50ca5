use mathlib.Core.Path.{◌∙◌, ap}
use Rattle.deck_reading.proofs.Places.{past-run}
use lib.ListN.{drop}
use Rattle.deck_reading.proofs.behind_run.Goals as goal

pub returns : goal.returns
returns c = ap (λ n. drop n c.args.s.now) c.unwrap_or.ensures ∙ past-run _ _ _ c.run_end.ensures
