use mathlib.Core.Path.{ap, sym, ◌∙◌}
use Rattle.declared.specs.Declared.{found}
use Rattle.declared.proofs.Starts.{start_is, one_none, one-found}
use Rattle.declared.proofs.is_one_symbol.Goals as goal

pub returns-in-Some : goal.returns-in-Some
returns-in-Some c =
    let s = c.args.s.now in
    λ q. one-found s q _ (sym (ap found c.in-Some.is) ∙ (c.start_symbol.ensures q ∙ start_is q s))

pub returns-in-None : goal.returns-in-None
returns-in-None c =
    let s = c.args.s.now in
    λ q. one_none s q (sym (ap found c.in-None.is) ∙ (c.start_symbol.ensures q ∙ start_is q s))
