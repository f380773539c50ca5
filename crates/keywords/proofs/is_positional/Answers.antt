use Rattle.std.proofs.Common.{true, length, ap, sym, ◌∙◌}
use lib.Dec.{ltb}
use Rattle.keywords.proofs.Parameters.{symbol-there, keyword-no-positional, positional-is}
use Rattle.keywords.proofs.is_positional.Goals as goal

pub returns-then-has_equals : goal.returns-then-has_equals
returns-then-has_equals c =
    sym (ap (λ ns. ltb 0 (length ns)) (keyword-no-positional c.args.part.now (sym c.has_equals.ensures ∙ c.if-has_equals.true)))

pub returns : goal.returns
returns c =
    c.is_some.ensures
    ∙ (symbol-there c.start_symbol.result
    ∙ ap (λ ns. ltb 0 (length ns)) (c.start_symbol.ensures true ∙ sym (positional-is c.args.part.now (sym c.has_equals.ensures ∙ c.if-has_equals.false))))
