use mathlib.Core.Path.{◌∙◌, ap}
use Rattle.deck_reading.proofs.Places.{past-place, bare-line, models-line, branch-if-line, counts-line, sets-line}
use lib.ListN.{drop}
use Rattle.deck_reading.proofs.line_fields.Goals as goal

pub returns-in-Passes : goal.returns-in-Passes
returns-in-Passes c =
    let s = c.args.s.now in
    let first = ap (λ n. drop n s) c.unwrap_or-first.ensures ∙ past-place s _ _ c.reach.ensures in
    bare-line s _ _ first _ c.in-Passes.is c.does_at-does.ensures

pub returns-in-Models : goal.returns-in-Models
returns-in-Models c =
    let s = c.args.s.now in
    let first = ap (λ n. drop n s) c.unwrap_or-first.ensures ∙ past-place s _ _ c.reach.ensures in
    models-line s _ _ first _ c.in-Models.is _ _ c.behind_run-operation.ensures c.behind_run-operand.ensures c.does_at-does.ensures

pub returns-in-BranchesIf : goal.returns-in-BranchesIf
returns-in-BranchesIf c =
    let s = c.args.s.now in
    let first = ap (λ n. drop n s) c.unwrap_or-first.ensures ∙ past-place s _ _ c.reach.ensures in
    branch-if-line s _ _ first _ c.in-BranchesIf.is _ c.behind_two.ensures c.does_at-does.ensures

pub returns-in-Counts : goal.returns-in-Counts
returns-in-Counts c =
    let s = c.args.s.now in
    let first = ap (λ n. drop n s) c.unwrap_or-first.ensures ∙ past-place s _ _ c.reach.ensures in
    counts-line s _ _ first _ c.in-Counts.is c.does_at-does.ensures

pub returns-in-Sets : goal.returns-in-Sets
returns-in-Sets c =
    let s = c.args.s.now in
    let first = ap (λ n. drop n s) c.unwrap_or-first.ensures ∙ past-place s _ _ c.reach.ensures in
    sets-line s _ _ first _ c.in-Sets.field-0 c.in-Sets.is _ c.behind_run.ensures c.does_at-does.ensures
