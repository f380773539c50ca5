use mathlib.Core.Path.{ap, ◌∙◌}
use Rattle.rules.specs.Form.{is_got}
use Rattle.grammar.specs.Tokens.{toks_at}
use Rattle.forms.proofs.Read.{formed-is}
use Rattle.forms.proofs.is_text.Goals as goal

pub returns : goal.returns
returns c = let a = c.args in c.is_ok.ensures.value ∙ formed-is (toks_at a.kinds.now a.code.now) _ ∙ ap is_got c.text.ensures
