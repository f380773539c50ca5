-- `name_at` meets its contract: the part that it cuts is the name in the row. Assumes nothing.
use Rattle.names.proofs.Rows.{name-cut}
use Rattle.names.proofs.name_at.Goals as goal

pub returns : goal.returns
returns c = name-cut _ _ c.size.result c.size.ensures
