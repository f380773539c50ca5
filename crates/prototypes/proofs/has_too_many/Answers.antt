use mathlib.Core.Path.{ap, sym, ◌∙◌}
use mathlib.Core.Bool.{false}
use Rattle.declared.specs.Declared.{found}
use Rattle.prototypes.proofs.Parameters.{many-none, many-one}
use Rattle.prototypes.proofs.has_too_many.Goals as goal

pub returns-in-Some : goal.returns-in-Some
returns-in-Some c = many-one c.args.name.now _ _ c.part_count-parts.ensures (sym (ap found c.in-Some.is) ∙ c.start_symbol.ensures false)

pub returns-in-None : goal.returns-in-None
returns-in-None c = many-none c.args.name.now _ _ c.part_count-parts.ensures (sym (ap found c.in-None.is) ∙ c.start_symbol.ensures false)
