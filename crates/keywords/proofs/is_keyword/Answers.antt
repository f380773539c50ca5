use Rattle.std.proofs.Common.{length, ap, ◌∙◌}
use lib.Dec.{ltb}
use Rattle.keywords.proofs.Parameters.{keyword-there}
use Rattle.keywords.proofs.is_keyword.Goals as goal

pub returns : goal.returns
returns c = c.is_some.ensures ∙ (keyword-there c.keyword_in.result ∙ ap (λ ks. ltb 0 (length ks)) c.keyword_in.ensures.value)
