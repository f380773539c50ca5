use Prim.Native.Nat.{◌≤◌, ◌-◌}
use mathlib.Core.Path.{◌≡◌}
use lib.ListN.{length}
use Rattle.text.specs.Bytes.{Bytes}
use Rattle.rules.specs.Grammar.{plain}
use Rattle.grammar.specs.Tokens.{toks_at}
use Rattle.grammar.proofs.Numbers.{onward}
use Rattle.grammar.proofs.decimal.Given as goal

abbrev pub invariant-loop-n : goal.invariant-loop-n
invariant-loop-n l = (l.n ≤ 2147483647) × ((kinds : Bytes) → l.c ≡ plain (toks_at kinds l.code l.here)) × ((kinds : Bytes) → onward (toks_at kinds l.code l.at) l.n (toks_at kinds l.code l.here) ≡ onward (toks_at kinds l.code l.at) 0 (toks_at kinds l.code l.at))

abbrev pub decreases-loop-n : goal.decreases-loop-n
decreases-loop-n l = length l.code - l.here
