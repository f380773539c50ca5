-- `statements::is_model_name` meets its contract: the first byte, and whether it is a sequence symbol. Assumes nothing.
use mathlib.Core.Path.{ap, ◌∙◌}
use mathlib.Core.Bool.{◌||◌, not}
use lib.Dec.{eqb}
use Rattle.rules.specs.Lexemes.{is_sequence}
use Rattle.rules.specs.Faults.{is_model_name}
use Rattle.statements.proofs.Parts.{other-is}
use Rattle.statements.proofs.is_model_name.Goals as goal

pub returns : goal.returns
unfolding is_model_name
returns c =
    let n = c.args.name.now in
    (λ i. not (eqb (c.byte-other.ensures i) 46) || c.is_sequence-sequence.ensures i) ∙ ap (λ b. b || is_sequence n) (other-is n)
