-- `batch::laid_out` meets its contract. Assumes nothing.
use Prim.Native.Nat.{◌+◌, ◌<◌}
use native.Mathlib.Omega.{arith}
use mathlib.Core.Path.{sym, ◌∙◌}
use lib.ListN.{length}
use Rattle.batch.proofs.Numbers.{read-inside}
use Rattle.batch.proofs.Cases.{laid-short, laid-short-program, laid-unended, laid-found}
use Rattle.batch.proofs.laid_out.Goals as goal

pub returns-then-input-start : goal.returns-then-input-start
returns-then-input-start c = sym (laid-short _ _ _ _ _ _ _ _ c.if-input-start.true)

pub returns-then-input-middle : goal.returns-then-input-middle
returns-then-input-middle c = sym (laid-short-program _ _ _ _ _ _ _ _ c.if-input-start.false c.if-input-middle.true)

pub returns-then-byte-ne10 : goal.returns-then-byte-ne10
returns-then-byte-ne10 c = sym (laid-unended _ _ _ _ _ _ _ _ c.if-input-start.false c.if-input-middle.false (λ e. c.if-byte-ne10.true (c.byte.ensures ∙ e)))

pub overflow_add-result : goal.overflow_add-result
overflow_add-result c =
    let a = c.args in
    let stop = a.start + a.library + a.program in
    let inside : stop < length a.input.now = read-inside a.input.now stop (sym c.if-byte-ne10.false ∙ c.byte.ensures) (omega arith) in
    omega (arith, inside)

pub returns : goal.returns
returns c = sym (laid-found _ _ _ _ _ _ _ _ c.if-input-start.false c.if-input-middle.false (sym c.byte.ensures ∙ c.if-byte-ne10.false))
