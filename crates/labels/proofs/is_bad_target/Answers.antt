-- `labels::is_bad_target` meets its contract: by cases on the symbol's length and on who names it. Assumes nothing.
use mathlib.Core.Path.{ap, sym, ◌∙◌}
use native.Mathlib.Omega.{arith}
use mathlib.Core.Bool.{not}
use mathlib.Core.List.{[]}
use Rattle.labels.proofs.Targets.{no_symbol, inside, too-long, named-before, named-behind}
use Rattle.labels.proofs.is_bad_target.Goals as goal

pub returns-then-length-eq0 : goal.returns-then-length-eq0
returns-then-length-eq0 c = no_symbol _ _ _ _ c.symbol_length-length.ensures c.if-length-eq0.true

pub returns-then-length-gt7 : goal.returns-then-length-gt7
returns-then-length-gt7 c = too-long _ _ _ _ c.symbol_length-length.ensures c.if-length-eq0.false c.if-length-gt7.true

pub slice_bounds-symbol-end : goal.slice_bounds-symbol-end
slice_bounds-symbol-end c = omega (arith, inside [] [] _ _ c.symbol_length-length.ensures c.if-length-eq0.false)

pub returns-then-any_named : goal.returns-then-any_named
returns-then-any_named c = named-before _ _ _ _ c.symbol_length-length.ensures c.if-length-eq0.false c.if-length-gt7.false (sym c.any_named.ensures ∙ c.if-any_named.true)

pub returns : goal.returns
returns c =
    ap not c.named_up_to_mend.ensures
    ∙ named-behind _ _ _ _ c.symbol_length-length.ensures c.if-length-eq0.false c.if-length-gt7.false (sym c.any_named.ensures ∙ c.if-any_named.false)
