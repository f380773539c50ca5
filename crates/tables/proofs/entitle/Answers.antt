-- `entitle` meets its contract: the name and then its blanks are one row. Assumes nothing.
use Rattle.tables.proofs.Grown.{title-written}
use Rattle.tables.proofs.entitle.Goals as goal

pub returns : goal.returns
returns c = title-written _ _ _ _ _ c.copy.ensures c.fill.ensures
