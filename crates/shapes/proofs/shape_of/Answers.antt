-- `shapes::shape_of` meets its contract: the shapes that a test or a field decides. Assumes nothing.
use mathlib.Core.Path.{ap, sym, ◌∙◌}
use mathlib.Core.Bool.{Bool, ◌&&◌, not}
use mathlib.Core.List.{[]}
use Rattle.rules.proofs.Choices.{chosen, passed_over}
use Rattle.kinds.specs.Kinds.{statement_by}
use Rattle.shapes.specs.Shapes.{part, branching_if, shape_of}
use Rattle.shapes.proofs.shape_of.Goals as goal

pub returns-in-Some-Aif : goal.returns-in-Some-Aif
unfolding shape_of part
returns-in-Some-Aif c =
    let a = c.args in
    let arm = c.in-Some-Aif in
    let e = c.branching_if.ensures ∙ ap (λ n. branching_if n a.codes) (c.condition_end.ensures []) in
    rw arm.is (rw (rw arm.is at arm.field-0-is) e)

pub returns-then-is_plain-label : goal.returns-then-is_plain-label
unfolding shape_of
returns-then-is_plain-label c =
    let a = c.args in
    c.keeps_none-then-is_plain-label.ensures
    ∙ sym (ap (λ w. shape_of (statement_by w) a.label a.codes a.code.now) c.in-None.is ∙ chosen _ _ (ap (λ (b : Bool). b && not a.label) (sym c.is_plain.ensures) ∙ c.if-is_plain-label.true))

pub returns-else-is_plain-label : goal.returns-else-is_plain-label
unfolding shape_of
returns-else-is_plain-label c =
    let a = c.args in
    c.modelling.ensures
    ∙ sym (ap (λ w. shape_of (statement_by w) a.label a.codes a.code.now) c.in-None.is ∙ passed_over _ _ (ap (λ (b : Bool). b && not a.label) (sym c.is_plain.ensures) ∙ c.if-is_plain-label.false))
