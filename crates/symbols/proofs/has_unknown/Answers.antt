use Rattle.std.proofs.Common.{◌∙◌, eqb}
use Rattle.deck.specs.Coders.{unknown_code}
use Rattle.rules.proofs.Listed.{any-listed}
use Rattle.symbols.specs.Held.{unknown_in}
use Rattle.symbols.proofs.has_unknown.Goals as goal

pub returns : goal.returns
unfolding unknown_in
returns c = c.contains.ensures.value ∙ any-listed (λ b. eqb b unknown_code) c.args.code.now
