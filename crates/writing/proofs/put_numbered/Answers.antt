-- `writing::put_numbered` meets its contract: the number, and then the bytes behind it. Assumes nothing.
use borrow.Author.Rules.{rules}
use native.Mathlib.Omega.{arith}
use mathlib.Core.Path.{sym}
use lib.ListN.{take, length-set}
use lib.Seq.{length-take-le}
use Rattle.shapes.specs.Shapes.{part}
use Rattle.writing.proofs.Writes.{set-kept}
use Rattle.writing.proofs.Parts.{front-short, part-short, headed-length, headed-end, headed-written}
use Rattle.writing.proofs.put_numbered.Goals as goal

pub slice_bounds-name-end : goal.slice_bounds-name-end
slice_bounds-name-end c = sym (length-take-le c.args.shape.name c.args.code.now c.requires.name-in)

pub bounds-out-at : goal.bounds-out-at
bounds-out-at c =
    let a = c.args in
    let s = a.code.now in
    let is = c.does_of-does.ensures a.line.now a.target (take a.shape.name s) (part s a.shape.operation a.shape.gap) (part s a.shape.operand a.shape.rest) in
    omega (arith, c.requires.room, headed-length _ _ _ is)

pub put_behind-requires : goal.put_behind-requires
unfolding part
put_behind-requires c =
    let a = c.args in
    let s = a.code.now in
    let is = c.does_of-does.ensures a.line.now a.target (take a.shape.name s) (part s a.shape.operation a.shape.gap) (part s a.shape.operand a.shape.rest) in
    record {
      line_len_bound = (
        search rules,
        (
          search rules,
          (
            omega (arith, front-short a.shape.name s, c.requires.codes-count),
            (omega (arith, part-short s a.shape.operation a.shape.gap, c.requires.codes-count), omega (arith, part-short s a.shape.operand a.shape.rest, c.requires.codes-count)),
          ),
        ),
      );
      operand_in_bounds = omega (arith, c.requires.room, headed-length _ _ _ is, length-set a.out.now a.at);
    }

pub shape_of-out : goal.shape_of-out
shape_of-out c =
    let a = c.args in
    set-kept a.out.now _ a.at _ _ _ c.put_behind.ensures.out_after

pub returns : goal.returns
unfolding part
returns c =
    let a = c.args in
    let s = a.code.now in
    let is = c.does_of-does.ensures a.line.now a.target (take a.shape.name s) (part s a.shape.operation a.shape.gap) (part s a.shape.operand a.shape.rest) in
    let e = c.put_behind.ensures in
    record { value = headed-end _ _ _ is _ _ e.value; out_after = headed-written _ _ _ is _ _ _ e.out_after }
