-- `bodies::put_fields` meets its contract: the codes, the shape over them, and then the line. Assumes nothing.
use Prim.Native.Nat.{◌+◌}
use native.Mathlib.Omega.{arith}
use mathlib.Core.Path.{ap, sym, ◌∙◌}
use lib.ListN.{length}
use lib.Seq.{length-take-le}
use Rattle.text.specs.Bytes.{Bytes}
use Rattle.lent.specs.Splice.{splice}
use Rattle.bodies.specs.Lines.{codes_of, code_ends}
use Rattle.bodies.proofs.Written.{end-within, ends-in, kept-now, fields-bytes}
use Rattle.bodies.proofs.put_fields.Goals as goal

pub code_fields-codes-requires : goal.code_fields-codes-requires
code_fields-codes-requires c =
    let h = c.requires.held in omega (arith, h.total, h.short, h.fits)

pub slice_bounds-all-end : goal.slice_bounds-all-end
unfolding codes_of code_ends
slice_bounds-all-end c =
    let a = c.args in
    let f = c.code_fields-codes.ensures in
    end-within a.names.own.now a.names.global.now a.names.shared.now a.line.now a.body.now a.name.now a.operation.now a.operand.now a.code.now c.requires.held _ _ f.code_after f.value

pub slice_bounds-all-end-2 : goal.slice_bounds-all-end-2
unfolding codes_of code_ends
slice_bounds-all-end-2 c =
    let a = c.args in
    let f = c.code_fields-codes.ensures in
    sym (length-take-le _ _ (end-within a.names.own.now a.names.global.now a.names.shared.now a.line.now a.body.now a.name.now a.operation.now a.operand.now a.code.now c.requires.held _ _ f.code_after f.value))

pub shape_of-shape-requires : goal.shape_of-shape-requires
unfolding codes_of code_ends
shape_of-shape-requires c =
    let a = c.args in
    let f = c.code_fields-codes.ensures in
    ends-in a.names.own.now a.names.global.now a.names.shared.now a.line.now a.body.now a.name.now a.operation.now a.operand.now a.code.now c.requires.held _ _ f.code_after f.value

pub put_kept-requires : goal.put_kept-requires
unfolding codes_of code_ends
put_kept-requires c =
    let a = c.args in
    let f = c.code_fields-codes.ensures in
    kept-now a.names.own.now a.names.global.now a.names.shared.now a.line.now a.body.now a.name.now a.operation.now a.operand.now a.code.now c.requires.held _ _ f.code_after f.value _ _ _ c.word-word.ensures.statement c.is_sequence-label.ensures c.shape_of-shape.ensures a.out.now a.at c.requires.operand_in_bounds

pub returns : goal.returns
unfolding codes_of code_ends
returns c =
    let a = c.args in
    let f = c.code_fields-codes.ensures in
    let e = c.put_kept.ensures in
    let is = fields-bytes a.names.own.now a.names.global.now a.names.shared.now a.line.now a.body.now a.name.now a.operation.now a.operand.now a.code.now c.requires.held _ _ f.code_after f.value _ _ _ c.word-word.ensures.statement c.is_sequence-label.ensures c.shape_of-shape.ensures in
    record { value = e.value ∙ ap (λ (t : Bytes). a.at + length t) is; out_after = e.out_after ∙ ap (splice a.out.now a.at) is }
