-- `statements::is_sequence` meets its contract: a period and a name behind it. Assumes nothing.
use mathlib.Core.Path.{ap, ◌∙◌}
use mathlib.Core.Bool.{◌&&◌}
use lib.Dec.{eqb}
use lib.ListN.{length, get_or}
use Prim.Native.Nat.{◌≤◌}
use Rattle.statements.proofs.Symbols.{no-sequence, sequence-is}
use borrow.Author.Rules.{rules}
use Rattle.statements.proofs.is_sequence.Goals as goal

pub returns-then-s-eq0 : goal.returns-then-s-eq0
returns-then-s-eq0 c = no-sequence _ c.if-s-eq0.true

pub returns : goal.returns
returns c =
    let s = c.args.s.now in
    let there : 1 ≤ length s = search rules in
    ap (λ b. eqb (get_or s 0 0) 46 && b) c.is_name-name.ensures ∙ sequence-is s there
