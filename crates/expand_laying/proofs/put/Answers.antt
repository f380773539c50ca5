-- `laying::put` meets its contract. Assumes nothing.
use native.Mathlib.Omega.{arith}
use mathlib.Core.Path.{◌∙◌}
use Rattle.expand_laying.proofs.Fronts.{at-most-left, at-most-right, gap-few, joined-size, put-by}
use borrow.Author.Rules.{rules}
use Rattle.expand_laying.proofs.put.Goals as goal

pub add-spaced-requires : goal.add-spaced-requires
add-spaced-requires c = let few = gap-few _ _ _ c.requires.1 (c.spaces-spaces.ensures.0 ∙ c.gap.ensures) in (search rules, at-most-right _ _ _ (omega arith), omega arith, omega arith)

pub add-requires : goal.add-requires
add-requires c = let few = gap-few _ _ _ c.requires.1 (c.spaces-spaces.ensures.0 ∙ c.gap.ensures) in let size = joined-size _ _ _ _ _ _ _ c.add-spaced.ensures in (search rules, at-most-left _ _ _ c.requires.2, c.requires.3, omega arith)

pub returns : goal.returns
returns c = put-by _ _ _ _ _ _ _ _ _ _ c.requires.1 (c.spaces-spaces.ensures.0 ∙ c.gap.ensures) c.spaces-spaces.ensures.1 c.add-spaced.ensures c.add.ensures
