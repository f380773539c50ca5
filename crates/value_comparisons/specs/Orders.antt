-- The code's orders and relations, as the rules'.
use Rattle.std.specs.Prelude.{Some, None}
use Rattle.std.specs.Prelude.{Option as Maybe}
use Rattle.std.specs.declared.cmp.Ordering.{Ordering}
use Rattle.std.specs.declared.cmp.Ordering.TheVariants.{Less, Equal, Greater}
use Rattle.std.proofs.Math.Option.{Option, none, some}
use Rattle.rules.specs.Values.{less, equal, greater, eq, ne, lt, le, gt, ge}
use Rattle.rules.specs.Values.{Order as OrderOf}
use Rattle.rules.specs.Values.{Relation as RelationOf}
use Rattle.value_comparisons.specs.declared.Relation.{Relation}
use Rattle.value_comparisons.specs.declared.Relation.TheVariants.{Eq, Ne, Lt, Le, Gt, Ge}

unfoldable pub order_of : Ordering → OrderOf
order_of Less = less
order_of Equal = equal
order_of Greater = greater

unfoldable pub relation_of : Relation → RelationOf
relation_of Eq = eq
relation_of Ne = ne
relation_of Lt = lt
relation_of Le = le
relation_of Gt = gt
relation_of Ge = ge

unfoldable pub related_of : Maybe Relation → Option RelationOf
related_of (Some r) = some (relation_of r)
related_of None = none
