-- `writing::put_behind` meets its contract, by what the line does. Assumes nothing.
use borrow.Author.Rules.{rules}
use Prim.Native.Nat.{◌+◌}
use native.Mathlib.Nat.{add-zero}
use native.Mathlib.Omega.{arith}
use mathlib.Core.Path.{ap, sym, ◌∙◌}
use lib.ListN.{length}
use Rattle.deck.specs.Coding.{two}
use Rattle.lent.specs.Splice.{splice}
use Rattle.writing.specs.Bytes.{behind_first}
use Rattle.writing.proofs.Writes.{counted-length, pair-length, three-length, two-length, branch-length}
use Rattle.writing.proofs.Parts.{behind, bare}
use Rattle.writing.proofs.put_behind.Goals as goal

pub returns-in-Passes : goal.returns-in-Passes
unfolding splice
returns-in-Passes c =
    let a = c.args in
    let is = bare a.line.now a.target a.name.now a.operation.now a.operand.now c.in-Passes.is in
    record { value = sym (add-zero a.at) ∙ ap (λ t. a.at + length t) (sym is); out_after = ap (splice a.out.now a.at) (sym is) }

pub put_counted-requires : goal.put_counted-requires
unfolding behind_first
put_counted-requires c =
    let a = c.args in
    let n = ap length (behind a.line.now a.target a.name.now a.operation.now a.operand.now c.in-Text.is) ∙ counted-length a.line.now in
    (omega arith, search rules)

pub returns-in-Text : goal.returns-in-Text
unfolding behind_first
returns-in-Text c =
    let a = c.args in
    let is = behind a.line.now a.target a.name.now a.operation.now a.operand.now c.in-Text.is in
    let e = c.put_counted.ensures in
    record { value = e.value ∙ ap (λ t. a.at + length t) (sym is); out_after = e.out_after ∙ ap (splice a.out.now a.at) (sym is) }

pub put_three-requires : goal.put_three-requires
unfolding behind_first
put_three-requires c =
    let a = c.args in
    let n = ap length (behind a.line.now a.target a.name.now a.operation.now a.operand.now c.in-Models.is) ∙ three-length a.name.now a.operation.now a.operand.now in
    (omega arith, search rules)

pub returns-in-Models : goal.returns-in-Models
unfolding behind_first
returns-in-Models c =
    let a = c.args in
    let is = behind a.line.now a.target a.name.now a.operation.now a.operand.now c.in-Models.is in
    let e = c.put_three.ensures in
    record { value = e.value ∙ ap (λ t. a.at + length t) (sym is); out_after = e.out_after ∙ ap (splice a.out.now a.at) (sym is) }

pub put_branch-requires : goal.put_branch-requires
unfolding behind_first
put_branch-requires c =
    let a = c.args in
    let n = ap length (behind a.line.now a.target a.name.now a.operation.now a.operand.now c.in-BranchesIf.is) ∙ branch-length a.target a.operand.now in
    (omega arith, search rules)

pub returns-in-BranchesIf : goal.returns-in-BranchesIf
unfolding behind_first
returns-in-BranchesIf c =
    let a = c.args in
    let is = behind a.line.now a.target a.name.now a.operation.now a.operand.now c.in-BranchesIf.is in
    let e = c.put_branch.ensures in
    record { value = e.value ∙ ap (λ t. a.at + length t) (sym is); out_after = e.out_after ∙ ap (splice a.out.now a.at) (sym is) }

pub put_counted-requires-in-Counts : goal.put_counted-requires-in-Counts
unfolding behind_first
put_counted-requires-in-Counts c =
    let a = c.args in
    let n = ap length (behind a.line.now a.target a.name.now a.operation.now a.operand.now c.in-Counts.is) ∙ counted-length a.operand.now in
    (omega arith, search rules)

pub returns-in-Counts : goal.returns-in-Counts
unfolding behind_first
returns-in-Counts c =
    let a = c.args in
    let is = behind a.line.now a.target a.name.now a.operation.now a.operand.now c.in-Counts.is in
    let e = c.put_counted-in-Counts.ensures in
    record { value = e.value ∙ ap (λ t. a.at + length t) (sym is); out_after = e.out_after ∙ ap (splice a.out.now a.at) (sym is) }

pub put_pair-requires : goal.put_pair-requires
unfolding behind_first
put_pair-requires c =
    let a = c.args in
    let n = ap length (behind a.line.now a.target a.name.now a.operation.now a.operand.now c.in-Sets.is) ∙ pair-length a.name.now a.operand.now in
    (omega arith, search rules)

pub returns-in-Sets : goal.returns-in-Sets
unfolding behind_first
returns-in-Sets c =
    let a = c.args in
    let is = behind a.line.now a.target a.name.now a.operation.now a.operand.now c.in-Sets.is in
    let e = c.put_pair.ensures in
    record { value = e.value ∙ ap (λ t. a.at + length t) (sym is); out_after = e.out_after ∙ ap (splice a.out.now a.at) (sym is) }

pub put_two-requires : goal.put_two-requires
unfolding behind_first
put_two-requires c =
    let a = c.args in
    let n = ap length (behind a.line.now a.target a.name.now a.operation.now a.operand.now c.in-Branches.is) ∙ two-length a.target in
    (omega arith, search rules)

pub overflow_add-result : goal.overflow_add-result
unfolding behind_first
overflow_add-result c =
    let a = c.args in
    let n = ap length (behind a.line.now a.target a.name.now a.operation.now a.operand.now c.in-Branches.is) ∙ two-length a.target in
    search rules

pub returns-in-Branches : goal.returns-in-Branches
unfolding behind_first two
returns-in-Branches c =
    let a = c.args in
    let is = behind a.line.now a.target a.name.now a.operation.now a.operand.now c.in-Branches.is in
    let n = ap length is ∙ two-length a.target in
    record { value = omega arith; out_after = c.put_two.ensures ∙ ap (splice a.out.now a.at) (sym is) }
