-- `title_place` meets its contract: only a word is looked up. Assumes nothing.
use Rattle.expand_titles.proofs.Places.{told_none, told-place}
use mathlib.Core.Path.{ap}
use mathlib.Core.Bool.{not}
use Rattle.expand_titles.proofs.title_place.Goals as goal

pub returns-then-not-is_word : goal.returns-then-not-is_word
returns-then-not-is_word c = λ titles rows f. told_none _ c.args.name.now titles _ c.is_word.ensures rows f (ap not c.if-not-is_word.true)

pub returns : goal.returns
returns c = λ titles rows f. told-place _ c.args.name.now titles _ c.is_word.ensures rows f _ c.find_macro.ensures (ap not c.if-not-is_word.false)
