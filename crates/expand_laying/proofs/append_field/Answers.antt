-- `laying::append_field` meets its contract. Assumes nothing.
use native.Mathlib.Omega.{arith}
use mathlib.Core.Path.{refl, ap, ◌∙◌}
use Rattle.expand_laying.specs.Kept.{joined_kept}
use Rattle.expand_laying.proofs.Fronts.{at-most-right, solid-fits, whole-kept}
use borrow.Author.Rules.{rules}
use Rattle.expand_laying.proofs.append_field.Goals as goal

pub add-requires : goal.add-requires
add-requires c = (search rules, at-most-right _ _ _ (omega arith), solid-fits _ _ c.solid_of-solid.ensures, search rules)

pub returns : goal.returns
returns c = c.add.ensures ∙ ap (joined_kept _ _) (whole-kept _ _ _ refl c.solid_of-solid.ensures)
