-- `place_of` meets its contract. Assumes nothing.
use mathlib.Core.Path.{◌≡◌}
use Rattle.value_references.proofs.Parts.{place-below, place-above, place-fits}
use mathlib.Core.Bool.{true, false}
use lib.IntN.{pos}
use lib.Signed.{lt_z}
use mir.Facts.{to_z-of_z}
use Rattle.value_references.proofs.place_of.Goals as goal

pub overflow_cast-result : goal.overflow_cast-result
overflow_cast-result c = let low : lt_z c.args.n (pos 0) ≡ false = rw (to_z-of_z c.ranges.n) at c.if-n-lt0.false in rw (to_z-of_z c.ranges.n) (place-fits _ c.ranges.n low)

pub returns-then-n-lt0 : goal.returns-then-n-lt0
returns-then-n-lt0 c = let low : lt_z c.args.n (pos 0) ≡ true = rw (to_z-of_z c.ranges.n) at c.if-n-lt0.true in place-below _ low

pub returns-else-n-lt0 : goal.returns-else-n-lt0
returns-else-n-lt0 c = let low : lt_z c.args.n (pos 0) ≡ false = rw (to_z-of_z c.ranges.n) at c.if-n-lt0.false in rw (to_z-of_z c.ranges.n) (place-above _ low)
