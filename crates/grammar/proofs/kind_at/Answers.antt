use mathlib.Core.Path.{sym, ap, ◌∙◌}
use Rattle.grammar.specs.Tokens.{lex_of}
use Rattle.grammar.specs.Kinds.{kind_shown}
use Rattle.grammar.proofs.Places.{kind-seen}
use Rattle.grammar.proofs.kind_at.Goals as goal

pub returns : goal.returns
returns c = let a = c.args in c.kind_shown.ensures ∙ ap (λ b. kind_shown (lex_of a.kinds.now b)) c.byte.ensures ∙ sym (kind-seen a.kinds.now a.code.now a.at)
