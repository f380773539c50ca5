use Prim.Native.Nat.{◌-◌}
use mathlib.Core.Path.{◌≡◌}
use lib.ListN.{length}
use Rattle.text.specs.Bytes.{Bytes}
use Rattle.rules.specs.Grammar.{past_spaces}
use Rattle.grammar.specs.Tokens.{toks_at}
use Rattle.grammar.proofs.past_spaces.Given as goal

abbrev pub invariant-loop-here : goal.invariant-loop-here
invariant-loop-here l = (kinds : Bytes) → past_spaces (toks_at kinds l.code l.here) ≡ past_spaces (toks_at kinds l.code l.at)

abbrev pub decreases-loop-here : goal.decreases-loop-here
decreases-loop-here l = length l.code - l.here
