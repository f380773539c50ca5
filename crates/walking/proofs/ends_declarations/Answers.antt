-- `walking::ends_declarations` meets its contract. Assumes nothing.
use Rattle.walking.proofs.Words.{ends-told}
use Rattle.walking.proofs.ends_declarations.Goals as goal

pub returns : goal.returns
returns c = ends-told _ _ _ _ c.word.result c.is_remark-remark.ensures c.operation_of-operation.ensures c.word.ensures.statement c.is_over.ensures
