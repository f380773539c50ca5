use mathlib.Core.Bool.{◌&&◌, not}
use Rattle.good_tests.proofs.is_keyword_name.Goals as goal

pub returns : goal.returns
returns c = λ i. c.is_name-good.ensures i && not (c.begins_sys-system.ensures i)
