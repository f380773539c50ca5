-- `have_lexemes` meets its contract. Assumes nothing.
use Rattle.good_forms.proofs.Texts.{three-tested}
use Rattle.good_forms.proofs.have_lexemes.Goals as goal

pub returns : goal.returns
returns c = three-tested _ _ _ _ _ _ _ _ c.run_at-name.ensures c.run_at-operation.ensures c.run_at-operand.ensures c.are_lexemes.ensures c.are_lexemes-2.ensures c.are_lexemes-3.ensures
