-- `bodies::put_statement` meets its contract: the line is cut into its fields. Assumes nothing.
use Prim.Native.Nat.{◌+◌, ◌≤◌}
use mathlib.Core.Path.{ap, sym, ◌∙◌, subst}
use lib.ListN.{length}
use Rattle.text.specs.Bytes.{Bytes}
use Rattle.lent.specs.Splice.{splice}
use Rattle.bodies.proofs.Written.{cuts-ordered, cut-held, cut-bytes}
use Rattle.bodies.proofs.put_statement.Goals as goal

pub slice_bounds-name-end : goal.slice_bounds-name-end
slice_bounds-name-end c =
    (cuts-ordered c.args.line.now _ c.cuts_of-cuts.ensures).0

pub slice_bounds-operation-count : goal.slice_bounds-operation-count
slice_bounds-operation-count c =
    (cuts-ordered c.args.line.now _ c.cuts_of-cuts.ensures).1.0

pub slice_bounds-operation-start : goal.slice_bounds-operation-start
slice_bounds-operation-start c =
    (cuts-ordered c.args.line.now _ c.cuts_of-cuts.ensures).1.0

pub slice_bounds-operation-end : goal.slice_bounds-operation-end
slice_bounds-operation-end c =
    (cuts-ordered c.args.line.now _ c.cuts_of-cuts.ensures).1.1.0

pub slice_bounds-operand-count : goal.slice_bounds-operand-count
slice_bounds-operand-count c =
    (cuts-ordered c.args.line.now _ c.cuts_of-cuts.ensures).1.1.1.0

pub slice_bounds-operand-start : goal.slice_bounds-operand-start
slice_bounds-operand-start c =
    (cuts-ordered c.args.line.now _ c.cuts_of-cuts.ensures).1.1.1.0

pub slice_bounds-operand-end : goal.slice_bounds-operand-end
slice_bounds-operand-end c =
    (cuts-ordered c.args.line.now _ c.cuts_of-cuts.ensures).1.1.1.1

pub put_fields-requires : goal.put_fields-requires
put_fields-requires c =
    let a = c.args in
    let is = cut-bytes a.line.now _ c.cuts_of-cuts.ensures a.names.own.now a.names.global.now a.names.shared.now a.body.now in
    record { held = cut-held a.line.now _ c.cuts_of-cuts.ensures a.body.now a.code.now c.requires.ready; operand_in_bounds = subst (λ (t : Bytes). a.at + length t ≤ length a.out.now) is c.requires.line_in_bounds }

pub returns : goal.returns
returns c =
    let a = c.args in
    let is = cut-bytes a.line.now _ c.cuts_of-cuts.ensures a.names.own.now a.names.global.now a.names.shared.now a.body.now in
    let e = c.put_fields.ensures in
    record { value = e.value ∙ ap (λ (t : Bytes). a.at + length t) (sym is); out_after = e.out_after ∙ ap (splice a.out.now a.at) (sym is) }
