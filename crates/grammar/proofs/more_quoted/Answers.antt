use Rattle.grammar.proofs.Places.{empty-is}
use Rattle.grammar.proofs.Quotes.{quote-is}
use Rattle.grammar.proofs.more_quoted.Goals as goal

pub returns : goal.returns
returns c = λ kinds inner. quote-is inner _ (c.text_at.ensures kinds) (c.doubled.ensures kinds inner) (empty-is kinds _ _)
