use mathlib.Core.Path.{◌∙◌, ap}
use Rattle.deck_reading.proofs.Places.{past-place}
use lib.ListN.{drop}
use Rattle.deck_reading.proofs.behind_two.Goals as goal

pub returns : goal.returns
returns c = ap (λ n. drop n c.args.s.now) c.unwrap_or.ensures ∙ past-place _ _ _ c.reach.ensures
