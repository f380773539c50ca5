use mathlib.Core.Bool.{true, false}
use Rattle.words.proofs.Laws.{no-word}
use Rattle.good_tests.proofs.Texts.{statement-told}
use Rattle.good_tests.proofs.is_statement_text.Goals as goal

pub returns : goal.returns
returns c f en eo ea = statement-told f en eo ea (no-word c.word-word.result _ _ c.word-word.ensures.number c.is_none.ensures).0 (c.is_plain-first.ensures false) (c.is_plain-second.ensures false) (c.is_plain-third.ensures true) c.byte-dot.ensures
