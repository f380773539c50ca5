use Prim.Native.Nat.{◌≤◌}
use mathlib.Core.Path.{◌≡◌}
use Rattle.rules.specs.Lexemes.{outside}
use Rattle.rules.specs.Calls.{pair_up}
use Rattle.call_codes.specs.Codes.{lexemes}
use Rattle.call_codes.proofs.Scanned.{pairs_from}
use Rattle.call_codes.proofs.pairs_up.Given as goal

abbrev pub invariant-loop-b : goal.invariant-loop-b
invariant-loop-b l = (l.seen.depth ≤ l.b-index) × (pair_up outside (lexemes l.code) ≡ pairs_from l.code (l.b-index) l.seen)
