use mathlib.Core.Bool.{◌&&◌, not}
use Rattle.good_tests.proofs.is_keyword_default.Goals as goal

pub returns : goal.returns
returns c = λ i. not (c.is_ill_written-ill.ensures i) && c.is_default-default.ensures i
