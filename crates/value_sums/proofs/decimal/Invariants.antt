use Prim.Native.Nat.{◌+◌}
use mathlib.Core.Path.{◌≡◌}
use Rattle.value_sums.proofs.Numbers.{Counted}
use Rattle.value_sums.proofs.decimal.Given as goal

abbrev pub invariant-loop-c : goal.invariant-loop-c
invariant-loop-c l = Counted l.c-items l.c-index l.number × (l.next ≡ l.at + l.c-index)
