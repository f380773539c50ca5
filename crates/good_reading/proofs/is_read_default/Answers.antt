use Rattle.good_reading.proofs.Defaults.{default-is}
use Rattle.good_reading.proofs.is_read_default.Goals as goal

pub returns : goal.returns
returns c = default-is _ _ _ c.bare_at-comma.ensures.value c.operand_end-space.ensures.value
