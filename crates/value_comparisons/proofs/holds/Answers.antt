-- `holds` meets its contract. Assumes nothing.
use mathlib.Core.Path.{◌∙◌}
use Rattle.value_comparisons.specs.declared.Relation.TheVariants.{Eq, Ne, Lt, Le, Gt, Ge}
use Rattle.value_comparisons.proofs.Ordered.{by-relation}
use Rattle.value_comparisons.proofs.holds.Goals as goal

pub returns-in-Eq : goal.returns-in-Eq
returns-in-Eq c = c.is_eq.ensures ∙ by-relation Eq _ c.in-Eq.is

pub returns-in-Ne : goal.returns-in-Ne
returns-in-Ne c = c.is_ne.ensures ∙ by-relation Ne _ c.in-Ne.is

pub returns-in-Lt : goal.returns-in-Lt
returns-in-Lt c = c.is_lt.ensures ∙ by-relation Lt _ c.in-Lt.is

pub returns-in-Le : goal.returns-in-Le
returns-in-Le c = c.is_le.ensures ∙ by-relation Le _ c.in-Le.is

pub returns-in-Gt : goal.returns-in-Gt
returns-in-Gt c = c.is_gt.ensures ∙ by-relation Gt _ c.in-Gt.is

pub returns-in-Ge : goal.returns-in-Ge
returns-in-Ge c = c.is_ge.ensures ∙ by-relation Ge _ c.in-Ge.is
