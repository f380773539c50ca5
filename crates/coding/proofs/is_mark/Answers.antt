use Rattle.std.proofs.Common.{[], ◌∷◌, ◌∙◌}
use Rattle.fields.proofs.Scan.{marks-is}
use Rattle.fields.specs.Seen.{before_of}
use Rattle.coding.proofs.is_mark.Goals as goal

pub returns : goal.returns
unfolding before_of
returns c = c.is_mark.ensures ∙ marks-is (c.args.next ∷ []) 0 _ c.args.c
