use mathlib.Core.Path.{sym, ◌∙◌}
use borrow.Author.Tests.{eqb-true, eqb-false}
use Rattle.call_codes.proofs.Cutting.{parts-none, parts-start}
use Rattle.call_codes.proofs.Parts.of.Goals as goal

pub returns-then-is_empty : goal.returns-then-is_empty
returns-then-is_empty c = sym (parts-none c.args.code.now (eqb-true _ _ (sym c.is_empty.ensures ∙ c.if-is_empty.true)))

pub returns : goal.returns
returns c = sym (parts-start c.args.code.now (eqb-false _ _ (sym c.is_empty.ensures ∙ c.if-is_empty.false)))
