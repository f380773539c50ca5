use mathlib.Core.Path.{ap, sym, ◌∙◌}
use mathlib.Core.Bool.{true}
use lib.Dec.{ltb}
use Rattle.declared.specs.Declared.{found}
use Rattle.declared.proofs.Starts.{start_is, size_none, size-some}
use Rattle.declared.proofs.starts_long.Goals as goal

pub returns-in-Some : goal.returns-in-Some
returns-in-Some c =
    let s = c.args.s.now in
    ap (ltb 7) (size-some s _ (sym (ap found c.in-Some.is) ∙ (c.start_symbol.ensures true ∙ start_is true s)))

pub returns-in-None : goal.returns-in-None
returns-in-None c =
    let s = c.args.s.now in
    ap (ltb 7) (sym (size_none s (sym (ap found c.in-None.is) ∙ (c.start_symbol.ensures true ∙ start_is true s))))
