use Prim.Native.Nat.{◌≤◌}
use mathlib.Core.Path.{◌≡◌}
use mathlib.Core.Bool.{true}
use lib.ListN.{drop}
use Rattle.text.specs.Characters.{digit}
use Rattle.rules.specs.Choice.{every}
use Rattle.rules.specs.Values.{spelt}
use Rattle.value_sums.proofs.spelt.Given as goal

abbrev pub invariant-loop-c : goal.invariant-loop-c
invariant-loop-c l = (l.number ≤ 2147483647) × (every digit (drop l.c-index l.digits) ≡ true) × (spelt l.number (drop l.c-index l.digits) ≡ spelt 0 l.digits)
