use mathlib.Core.Path.{ap, ◌∙◌}
use Rattle.rules.specs.Grammar.{whole as whole_of}
use Rattle.rules.specs.Form.{is_got}
use Rattle.forms.proofs.is_characters.Goals as goal

pub returns : goal.returns
returns c = let a = c.args in c.whole.ensures a.kinds.now ∙ ap (λ g. is_got (whole_of g)) c.characters.ensures
