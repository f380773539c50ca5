-- `is_in_order` meets its contract. Assumes nothing.
use Rattle.good_forms.proofs.Texts.{ordered}
use Rattle.good_forms.proofs.is_in_order.Goals as goal

pub returns : goal.returns
returns c = ordered _ _ c.run_at-text.ensures c.two_at-target.ensures.0 _ _ c.is_in_order.ensures
