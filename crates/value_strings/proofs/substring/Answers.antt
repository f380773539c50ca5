-- `substring` meets its contract. Assumes nothing.
use mathlib.Core.Path.{◌≡◌}
use Prim.Native.Nat.{◌-◌, ◌≤◌, ◌<◌}
use Rattle.value_strings.proofs.Types.{start-below, count-below, start-past, part-taken}
use mathlib.Core.Bool.{true, false}
use lib.IntN.{pos, nat_abs}
use lib.Signed.{lt_z}
use mir.Facts.{to_z-of_z}
use Rattle.value_sublists.proofs.Divided.{above-size, above-fits}
use Rattle.value_references.proofs.Parts.{place-fits}
use Rattle.value_strings.proofs.substring.Goals as goal

pub returns-then-start-lt1 : goal.returns-then-start-lt1
returns-then-start-lt1 c = let one : lt_z c.args.start (pos 1) ≡ true = rw (to_z-of_z c.ranges.start) at c.if-start-lt1.true in λ s e. start-below s _ _ one

pub returns-then-count-lt0 : goal.returns-then-count-lt0
returns-then-count-lt0 c = let none : lt_z c.args.count (pos 0) ≡ true = rw (to_z-of_z c.ranges.count) at c.if-count-lt0.true in λ s e. count-below s _ _ none

pub overflow_cast-before : goal.overflow_cast-before
overflow_cast-before c = let one : lt_z c.args.start (pos 1) ≡ false = rw (to_z-of_z c.ranges.start) at c.if-start-lt1.false in rw (to_z-of_z c.ranges.start) (above-fits _ c.ranges.start one)

pub overflow_sub-before : goal.overflow_sub-before
overflow_sub-before c = let one : lt_z c.args.start (pos 1) ≡ false = rw (to_z-of_z c.ranges.start) at c.if-start-lt1.false in rw (to_z-of_z c.ranges.start) (above-size c.args.start one)

pub returns-then-size-before : goal.returns-then-size-before
returns-then-size-before c = let one : lt_z c.args.start (pos 1) ≡ false = rw (to_z-of_z c.ranges.start) at c.if-start-lt1.false in let none : lt_z c.args.count (pos 0) ≡ false = rw (to_z-of_z c.ranges.count) at c.if-count-lt0.false in let past : c.args.size ≤ nat_abs c.args.start - 1 = rw (to_z-of_z c.ranges.start) at c.if-size-before.true in λ s e. start-past s _ _ one none (rw e past)

pub overflow_cast-result : goal.overflow_cast-result
overflow_cast-result c = let none : lt_z c.args.count (pos 0) ≡ false = rw (to_z-of_z c.ranges.count) at c.if-count-lt0.false in rw (to_z-of_z c.ranges.count) (place-fits _ c.ranges.count none)

pub returns : goal.returns
returns c = let one : lt_z c.args.start (pos 1) ≡ false = rw (to_z-of_z c.ranges.start) at c.if-start-lt1.false in let none : lt_z c.args.count (pos 0) ≡ false = rw (to_z-of_z c.ranges.count) at c.if-count-lt0.false in let inside : nat_abs c.args.start - 1 < c.args.size = rw (to_z-of_z c.ranges.start) at c.if-size-before.false in λ s e. rw (to_z-of_z c.ranges.start, to_z-of_z c.ranges.count) (part-taken s _ _ one none (rw e inside))
