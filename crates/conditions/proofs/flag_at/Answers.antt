use mathlib.Core.Path.{ap, ◌∙◌}
use Rattle.std.specs.Prelude.{Some}
use Rattle.std.specs.Option.{option_eq}
use Rattle.kinds.specs.declared.Set.TheVariants.{B}
use Rattle.kinds.specs.declared.Kind.TheVariants.{Symbol}
use Rattle.kinds.specs.contracts.KindPartialEq.TheImpl.{eq-value}
use Rattle.conditions.proofs.Conditions.{flag_is}
use Rattle.conditions.proofs.flag_at.Goals as goal

pub returns : goal.returns
returns c = λ nest inner. c.eq.ensures ∙ ap (λ k. option_eq eq-value.it k (Some (Symbol B))) c.kind_at.ensures ∙ flag_is nest inner _
