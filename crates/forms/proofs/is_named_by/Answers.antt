use mathlib.Core.Path.{sym, ap, ◌∙◌}
use mathlib.Core.Bool.{◌&&◌}
use lib.Dec.{eqb}
use Rattle.std.specs.Prelude.{Some}
use Rattle.std.specs.Option.{option_eq}
use Rattle.kinds.specs.declared.Kind.TheVariants.{Symbol}
use Rattle.kinds.specs.contracts.KindPartialEq.TheImpl.{eq-value}
use Rattle.forms.proofs.Lines.{all-length, named-is}
use Rattle.forms.proofs.is_named_by.Goals as goal

pub returns : goal.returns
returns c = let a = c.args in
    let one = ap (λ n. eqb n 1) (sym (all-length a.kinds.now a.code.now)) in
    let named = c.eq.ensures ∙ ap (λ k. option_eq eq-value.it k (Some (Symbol a.set))) c.kind_at.ensures in
    (λ i. one i && named i) ∙ named-is a.set _
