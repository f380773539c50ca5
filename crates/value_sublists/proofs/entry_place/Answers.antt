-- `entry_place` meets its contract. Assumes nothing.
use mathlib.Core.Path.{◌≡◌, ap, ◌∙◌}
use mathlib.Core.Bool.{true, false}
use Prim.Native.Nat.{◌-◌}
use lib.IntN.{pos, nat_abs}
use lib.Signed.{lt_z}
use mir.Facts.{to_z-of_z}
use Rattle.rules.specs.Values.{entry, entries_of}
use Rattle.value_sublists.specs.Entries.{cut_in, cut_by}
use Rattle.value_sublists.proofs.Divided.{entry-none, entry-some, entry-all, entry_past, above, above-size, above-fits}
use Rattle.value_sublists.proofs.entry_place.Goals as goal

pub returns-then-n-lt1 : goal.returns-then-n-lt1
returns-then-n-lt1 c = let low : lt_z c.args.n (pos 1) ≡ true = rw (to_z-of_z c.ranges.n) at c.if-n-lt1.true in entry-none _ _ low

pub overflow_cast-before : goal.overflow_cast-before
overflow_cast-before c = let low : lt_z c.args.n (pos 1) ≡ false = rw (to_z-of_z c.ranges.n) at c.if-n-lt1.false in rw (to_z-of_z c.ranges.n) (above-fits _ c.ranges.n low)

pub overflow_sub-before : goal.overflow_sub-before
overflow_sub-before c = let low : lt_z c.args.n (pos 1) ≡ false = rw (to_z-of_z c.ranges.n) at c.if-n-lt1.false in rw (to_z-of_z c.ranges.n) (above-size c.args.n low)

pub returns-in-Some : goal.returns-in-Some
returns-in-Some c = let low : lt_z c.args.n (pos 1) ≡ false = rw (to_z-of_z c.ranges.n) at c.if-n-lt1.false in let l = c.args.s.now in let h : cut_in l c.entries_of.result ≡ cut_by (nat_abs c.args.n - 1) (entries_of l) = rw (to_z-of_z c.ranges.n) at c.entries_of.ensures in entry-some l _ _ h c.in-Some.is ∙ ap (entry l) (above _ low)

pub returns-in-None : goal.returns-in-None
returns-in-None c = let low : lt_z c.args.n (pos 1) ≡ false = rw (to_z-of_z c.ranges.n) at c.if-n-lt1.false in let l = c.args.s.now in let h : cut_in l c.entries_of.result ≡ cut_by (nat_abs c.args.n - 1) (entries_of l) = rw (to_z-of_z c.ranges.n) at c.entries_of.ensures in entry-all l _ _ h c.in-None.is (rw (to_z-of_z c.ranges.n) at c.if-before-eq0.true) ∙ ap (entry l) (above _ low)

pub returns-in-None-2 : goal.returns-in-None-2
returns-in-None-2 c = let low : lt_z c.args.n (pos 1) ≡ false = rw (to_z-of_z c.ranges.n) at c.if-n-lt1.false in let l = c.args.s.now in let h : cut_in l c.entries_of.result ≡ cut_by (nat_abs c.args.n - 1) (entries_of l) = rw (to_z-of_z c.ranges.n) at c.entries_of.ensures in entry_past l _ _ h c.in-None-2.is (rw (to_z-of_z c.ranges.n) at c.if-before-eq0.false) ∙ ap (entry l) (above _ low)
