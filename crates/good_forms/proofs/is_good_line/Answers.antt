-- `is_good_line` meets its contract. Assumes nothing.
use Rattle.good_forms.proofs.Texts.{good-line}
use Rattle.good_forms.proofs.is_good_line.Goals as goal

pub returns : goal.returns
returns c globals m known counted = good-line _ _ _ c.line_fields-f.ensures globals m _ _ counted _ _ _ c.is_in_order.ensures c.have_lexemes.ensures (c.is_formed_line.ensures globals m known)
