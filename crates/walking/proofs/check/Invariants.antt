use Prim.Native.Nat.{◌-◌}
use mathlib.Core.Path.{◌≡◌}
use lib.ListN.{length}
use Rattle.walking.specs.Walks.{Walked}
use Rattle.walking.proofs.check.Given as goal

abbrev pub invariant-loop-walk : goal.invariant-loop-walk
invariant-loop-walk l =
    Walked l.library l.walk l.titles l.own l.global l.shared l.kinds
    × (length l.titles ≡ length l.initial.titles)
    × (length l.own ≡ length l.initial.own)
    × (length l.global ≡ length l.initial.global)
    × (length l.shared ≡ length l.initial.shared)
    × (length l.kinds ≡ length l.initial.kinds)
    × (length l.code ≡ length l.initial.code)

abbrev pub decreases-loop-walk : goal.decreases-loop-walk
decreases-loop-walk l = length l.library - l.walk.at
