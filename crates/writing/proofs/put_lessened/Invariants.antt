use Prim.Native.Nat.{◌+◌}
use mathlib.Core.Path.{◌≡◌}
use lib.ListN.{length, drop}
use Rattle.lent.specs.Splice.{splice}
use Rattle.writing.specs.Bytes.{lessened}
use Rattle.writing.proofs.put_lessened.Given as goal

abbrev pub invariant-loop-i : goal.invariant-loop-i
invariant-loop-i l =
    (length l.out ≡ length l.initial.out) × (splice l.out (l.at + l.i) (lessened (drop l.i l.s)) ≡ splice l.initial.out l.at (lessened l.s))
