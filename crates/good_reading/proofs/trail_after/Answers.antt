use mathlib.Core.Bool.{◌&&◌, not}
use mathlib.Core.Path.{◌∙◌}
use lib.Dec.{eqb}
use Rattle.rules.specs.Choice.{choose}
use Rattle.good_reading.specs.Trails.{trail_after}
use Rattle.good_reading.proofs.trail_after.Goals as goal

pub returns : goal.returns
unfolding trail_after
returns c = λ i. record {
  before = record {
    second = c.args.trail.before.first;
    first = c.last_of.ensures i;
    quoted = (c.quoted_after.ensures ∙ (λ j. choose (eqb (c.text_of-text.ensures j) 39) (c.args.quotes && not c.args.trail.before.quoted) c.args.trail.before.quoted)) i;
  };
  odd = eqb (c.text_of-text.ensures i) 38 && not c.args.trail.odd;
}
