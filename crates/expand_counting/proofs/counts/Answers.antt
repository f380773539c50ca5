-- `counts` meets its contract: below 0 or above 4096, or between. Assumes nothing.
use mathlib.Core.Path.{◌≡◌, ap}
use mathlib.Core.Bool.{true, false}
use lib.IntN.{pos, nat_abs}
use lib.Signed.{lt_z}
use mir.Facts.{to_z-of_z}
use Rattle.expand_counting.proofs.Ranges.{counts-below, counts-above, counts-within}
use Rattle.expand_counting.proofs.counts.Goals.{then-v-lt0-via-then-v-lt0, then-v-lt0-via-else-v-lt0+then-v-gt-LARGEST}
use Rattle.expand_counting.proofs.counts.Goals as goal

pub returns-then-v-lt0 : goal.returns-then-v-lt0
returns-then-v-lt0 c = elim c.then-v-lt0.branch [
  | then-v-lt0-via-then-v-lt0 w ↦ (let lo : lt_z c.args.v (pos 0) ≡ true = rw (to_z-of_z c.ranges.v) at w.if-v-lt0.true in counts-below _ _ c.args.v lo c.refuses.ensures)
  | then-v-lt0-via-else-v-lt0+then-v-gt-LARGEST w ↦ (let hi : lt_z (pos 4096) c.args.v ≡ true = rw (to_z-of_z c.ranges.v) at w.if-v-gt-LARGEST.true in counts-above _ _ c.args.v hi c.refuses.ensures)
]

pub returns : goal.returns
returns c =
    let lo : lt_z c.args.v (pos 0) ≡ false = rw (to_z-of_z c.ranges.v) at c.if-v-lt0.false in
    let hi : lt_z (pos 4096) c.args.v ≡ false = rw (to_z-of_z c.ranges.v) at c.if-v-gt-LARGEST.false in
    counts-within _ _ c.args.v lo hi _ (ap nat_abs (to_z-of_z c.ranges.v)) c.renews.ensures
