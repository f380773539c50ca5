use borrow.Author.Rules.{rules}
use Rattle.good_reading.specs.Trails.{ends_by}
use Rattle.good_reading.proofs.ends_at.Goals as goal

pub returns : goal.returns
unfolding ends_by
returns c = search rules
