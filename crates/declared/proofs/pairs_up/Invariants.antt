use Prim.Native.Nat.{◌≤◌}
use mathlib.Core.Path.{◌≡◌}
use mathlib.Core.Bool.{true}
use Rattle.rules.specs.Lexemes.{lexed, outside}
use Rattle.rules.specs.Calls.{pair_up}
use Rattle.declared.proofs.Pairs.{pairs_from}
use Rattle.declared.proofs.pairs_up.Given as goal

abbrev pub invariant-loop-i : goal.invariant-loop-i
invariant-loop-i l =
    (l.seen.depth ≤ l.i) × (pair_up outside (lexed true l.s) ≡ pairs_from l.s l.i l.seen)
