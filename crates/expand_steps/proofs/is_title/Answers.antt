-- `is_title` meets its contract. Assumes nothing.
use Rattle.expand_steps.proofs.Using.{title-told}
use Rattle.expand_steps.proofs.is_title.Goals as goal

pub returns : goal.returns
returns c = title-told _ _ _ c.args.operation.now _ c.title_rows-table.ensures c.title_place.ensures
