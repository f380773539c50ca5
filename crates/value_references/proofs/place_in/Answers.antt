use Rattle.work_frames.specs.Frames.{place_in}
use borrow.Author.Rules.{rules}
use Rattle.value_references.proofs.place_in.Goals as goal

pub returns : goal.returns
unfolding place_in
returns c = search rules
