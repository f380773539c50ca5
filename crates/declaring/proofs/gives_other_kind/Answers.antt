use Rattle.std.proofs.Common.{rules, tests, ◌∙◌}
use Rattle.std.proofs.lemmas.Iterator.Search.{any_from_yields_List}
use Rattle.std.proofs.lemmas.Iterator.Consumers.{YieldsList-from_first}
use Rattle.kinds.specs.Kinds.{set_of}
use Rattle.rules.specs.Faults.{has_other_kind}
use Rattle.parts.proofs.Chains.{any-listed}
use Rattle.operands.specs.Symbols.{symbols_left}
use Rattle.declaring.specs.Declared.{symbols_in, globals_in}
use Rattle.declaring.proofs.gives_other_kind.Goals as goal

pub returns : goal.returns
unfolding symbols_in
returns c =
    let a = c.args in
    let other = has_other_kind (set_of a.set) (globals_in a.shared.now a.kinds.now) in
    any_from_yields_List other _ _ _ c.any.ensures.ran (YieldsList-from_first (λ n. n.now) symbols_left _ c.of.ensures) (λ x b q k. search (rules, tests))
    ∙ any-listed other _
