use Rattle.prototypes.proofs.Parameters.{macro-name-told}
use Rattle.prototypes.proofs.is_macro_name.Goals as goal

pub returns : goal.returns
returns c =
    macro-name-told _ c.is_none.result c.word-word.result c.is_name-name.ensures c.word-word.ensures.number c.is_none.ensures
