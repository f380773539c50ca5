-- `faults::coded_fault` meets its contract. Assumes nothing.
use mathlib.Core.Path.{ap, sym, ◌∙◌, subst}
use mathlib.Core.Bool.{Bool}
use lib.ListN.{length}
use Rattle.kinds.specs.Kinds.{statement_by}
use Rattle.shapes.specs.declared.Shape.{Shape}
use Rattle.shapes.specs.Shapes.{shape_of}
use Rattle.faults.specs.Coded.{Inside}
use Rattle.faults.proofs.Shaped.{shape-inside}
use Rattle.faults.proofs.coded_fault.Goals as goal

pub shaped_fault-requires : goal.shaped_fault-requires
shaped_fault-requires c =
    let a = c.args in
    let p = c.requires in
    (p.0, (subst (λ (k : Shape). Inside k (length a.statement.code.now)) (sym c.shape_of-shape.ensures) (shape-inside _ _ p.0 _ _ _), p.1))

pub returns : goal.returns
returns c =
    let a = c.args in
    λ l d. c.shaped_fault.ensures l d (c.shape_of-shape.ensures ∙ ap (λ (b : Bool). shape_of (statement_by a.statement.word) b a.statement.codes a.statement.code.now) c.is_sequence-label.ensures)
