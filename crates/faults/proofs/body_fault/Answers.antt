-- `faults::body_fault` meets its contract: an ill-written line, a remark, a statement. Assumes nothing.
use mathlib.Core.Path.{sym, ◌∙◌}
use Rattle.rules.specs.Fields.{lines_of}
use Rattle.checking.specs.Body.{tables_of}
use Rattle.faults.proofs.Lines.{is-one, remark-has-none, statement-there, statement-has}
use Rattle.faults.proofs.body_fault.Goals as goal

pub returns-then-is_ill_written : goal.returns-then-is_ill_written
returns-then-is_ill_written c = λ a p ls h f e n. is-one _ _ _ _ _ (sym c.is_ill_written.ensures ∙ c.if-is_ill_written.true)

pub returns-then-is_remark : goal.returns-then-is_remark
returns-then-is_remark c = λ a p ls h f e n. remark-has-none a p (lines_of c.args.lines.before.now) ls c.args.line.now (sym c.is_remark.ensures ∙ c.if-is_remark.true) (sym c.is_ill_written.ensures ∙ c.if-is_ill_written.false)

pub statement_fault-requires : goal.statement_fault-requires
statement_fault-requires c =
    (statement-there _ (sym c.is_ill_written.ensures ∙ c.if-is_ill_written.false) (sym c.is_remark.ensures ∙ c.if-is_remark.false), c.requires)

pub returns : goal.returns
returns c =
    let b = c.args in
    let t = tables_of b.tables in
    λ a p ls h f e n. c.statement_fault.ensures
    ∙ statement-has a p (lines_of b.lines.before.now) ls (lines_of b.lines.from.now) t h b.line.now b.ended b.locals (sym c.is_ill_written.ensures ∙ c.if-is_ill_written.false) (sym c.is_remark.ensures ∙ c.if-is_remark.false) f e n
