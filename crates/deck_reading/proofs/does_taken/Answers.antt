-- `does_taken` meets its contract: what the byte is told as, SETA's where it is none. Assumes nothing.
use Rattle.std.proofs.Common.{◌∙◌, ap}
use Rattle.std.specs.Option.{unwrap_or}
use Rattle.kinds.specs.declared.Set.TheVariants.{A}
use Rattle.kinds.specs.declared.Does.TheVariants.{Sets}
use Rattle.deck_reading.specs.Reading.{does_taken, does_in}
use Rattle.deck_reading.proofs.Places.{taken-meant}
use Rattle.deck_reading.proofs.does_taken.Goals as goal

pub returns-clause-value : goal.returns-clause-value
unfolding does_taken
returns-clause-value c = c.unwrap_or.ensures ∙ ap (λ o. unwrap_or o (Sets A)) c.does_of.ensures

pub returns-clause-meaning : goal.returns-clause-meaning
unfolding does_taken
returns-clause-meaning c = λ s at. ap (λ d. does_in d s at) (c.unwrap_or.ensures ∙ ap (λ o. unwrap_or o (Sets A)) c.does_of.ensures) ∙ taken-meant c.args.code s at
