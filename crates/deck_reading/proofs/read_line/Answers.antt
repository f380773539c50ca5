use Rattle.std.specs.Prelude.{Some, None}
use Rattle.kinds.specs.declared.Does.TheVariants.{Text, Models, BranchesIf, Branches, Counts, Sets}
use Rattle.deck_reading.proofs.Lines.{no_field, next_field, line-not, line-none, line-does, line-word, by-text, by-models, by-branch-if, by-branch, by-counts, by-sets}
use Rattle.deck_reading.proofs.read_line.Goals as goal

pub returns-in_err-from : goal.returns-in_err-from
returns-in_err-from c = rw c.from_residual.ensures (line-not _ _ c.in_err-from.ensures)

pub returns-in_err-does_of : goal.returns-in_err-does_of
returns-in_err-does_of c = rw c.from_residual-in_err-does_of.ensures (line-none _ _ c.in_ok-from.ensures c.byte.ensures c.in_err-does_of.ensures)

pub returns-in_err-operation-in-Models : goal.returns-in_err-operation-in-Models
returns-in_err-operation-in-Models c =
    let s = c.args.s.now in
    rw c.from_residual-in_err-operation-in-Models.ensures (line-does _ _ c.in_ok-from.ensures None c.byte.ensures c.in_ok-does_of.ensures Models c.in-Models.is (by-models s _ None None (no_field s) c.in_err-operation-in-Models.ensures None (no_field s)))

pub returns-in_err-operand-in-Models : goal.returns-in_err-operand-in-Models
returns-in_err-operand-in-Models c =
    let s = c.args.s.now in
    rw c.from_residual-in_err-operand-in-Models.ensures (line-does _ _ c.in_ok-from.ensures None c.byte.ensures c.in_ok-does_of.ensures Models c.in-Models.is (by-models s _ (Some _) None (next_field s _ _ c.in_err-operand-in-Models.ensures) c.in_ok-operation-in-Models.ensures None (no_field s)))

pub returns-in_err-operand-in-BranchesIf : goal.returns-in_err-operand-in-BranchesIf
returns-in_err-operand-in-BranchesIf c =
    let s = c.args.s.now in
    rw c.from_residual-in_err-operand-in-BranchesIf.ensures (line-does _ _ c.in_ok-from.ensures None c.byte.ensures c.in_ok-does_of.ensures BranchesIf c.in-BranchesIf.is (by-branch-if s _ None None (no_field s) c.in_err-operand-in-BranchesIf.ensures))

pub returns-in_err-operand-in-Sets : goal.returns-in_err-operand-in-Sets
returns-in_err-operand-in-Sets c =
    let s = c.args.s.now in
    rw c.from_residual-in_err-operand-in-Sets.ensures (line-does _ _ c.in_ok-from.ensures None c.byte.ensures c.in_ok-does_of.ensures (Sets c.in-Sets.field-0) c.in-Sets.is (by-sets s _ None None (no_field s) c.in_err-operand-in-Sets.ensures c.in-Sets.field-0))

pub returns-in-Passes : goal.returns-in-Passes
returns-in-Passes c = line-word _ _ c.in_ok-from.ensures c.byte.ensures c.in_ok-does_of.ensures c.in-Passes.is

pub returns-in-Text : goal.returns-in-Text
returns-in-Text c = line-does _ _ c.in_ok-from.ensures _ c.byte.ensures c.in_ok-does_of.ensures Text c.in-Text.is (by-text _ _ _ c.read_string.ensures)

pub returns-in_ok-operand-in-Models : goal.returns-in_ok-operand-in-Models
returns-in_ok-operand-in-Models c =
    let s = c.args.s.now in
    line-does _ _ c.in_ok-from.ensures _ c.byte.ensures c.in_ok-does_of.ensures Models c.in-Models.is (by-models s _ (Some _) (Some _) (next_field s _ _ c.in_ok-operand-in-Models.ensures) c.in_ok-operation-in-Models.ensures _ (next_field s _ _ c.read_field-in-Models-2.ensures))

pub returns-in_ok-operand-in-BranchesIf : goal.returns-in_ok-operand-in-BranchesIf
returns-in_ok-operand-in-BranchesIf c =
    let s = c.args.s.now in
    line-does _ _ c.in_ok-from.ensures _ c.byte.ensures c.in_ok-does_of.ensures BranchesIf c.in-BranchesIf.is (by-branch-if s _ (Some _) _ (next_field s _ _ c.read_field-in-BranchesIf.ensures) c.in_ok-operand-in-BranchesIf.ensures)

pub returns-in-Branches : goal.returns-in-Branches
returns-in-Branches c = line-does _ _ c.in_ok-from.ensures _ c.byte.ensures c.in_ok-does_of.ensures Branches c.in-Branches.is (by-branch _ _ _ c.read_two-in-Branches.ensures)

pub returns-in-Counts : goal.returns-in-Counts
returns-in-Counts c = line-does _ _ c.in_ok-from.ensures _ c.byte.ensures c.in_ok-does_of.ensures Counts c.in-Counts.is (by-counts _ _ _ c.read_field-in-Counts.ensures)

pub returns-in_ok-operand-in-Sets : goal.returns-in_ok-operand-in-Sets
returns-in_ok-operand-in-Sets c =
    let s = c.args.s.now in
    line-does _ _ c.in_ok-from.ensures _ c.byte.ensures c.in_ok-does_of.ensures (Sets c.in-Sets.field-0) c.in-Sets.is (by-sets s _ (Some _) _ (next_field s _ _ c.read_field-in-Sets-2.ensures) c.in_ok-operand-in-Sets.ensures c.in-Sets.field-0)
