use mathlib.Core.Path.{◌≡◌}
use Prim.Native.Nat.{◌≤◌}
use mathlib.Core.Bool.{false}
use Rattle.text.specs.Bytes.{Bytes}
use Rattle.forms.proofs.Pairing.{pair_from}
use Rattle.forms.proofs.pair_at.Given as goal

abbrev pub invariant-loop-at : goal.invariant-loop-at
invariant-loop-at l = ((kinds : Bytes) → pair_from kinds l.code 0 false 0 ≡ pair_from kinds l.code l.at l.quoted l.depth) × (l.depth ≤ l.at)
